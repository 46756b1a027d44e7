-- What is known of a node before any item is seen: whether it asks something of an item without children, and of which type its items
-- are, where it names one.
use Rattle.std.specs.Prelude.{ℕ, List, [], ◌∷◌, length, map, get_or, Bool, true, false, not, ◌&&◌, nat_eq, is_none, Option, None, Some}
use Rattle.std.specs.List.{list_all, range_with_len}
use Rattle.std.specs.Option.{option_map_or}
use Rattle.fhir_json.specs.Bytes.{is_empty}
use Rattle.fhir_elements.specs.TypeEntry.{TypeEntry}
use Rattle.fhir_elements.specs.Constraint.{must_hold}
use Rattle.fhir_elements.specs.Element.{Element, required_value_set}
use Rattle.fhir_definition.specs.Definition.{Definition}
use Rattle.fhir_nodes.specs.declared.node.NodeRef.{NodeRef}
use Rattle.fhir_nodes.specs.Slots.{Slot, all_slices}
use Rattle.fhir_nodes.specs.Contents.{elements_in, element_of}
use Rattle.fhir_nodes.specs.Holders.{slots_at}
use Rattle.fhir_nodes.specs.Types.{type_place}

-- ---- an element by itself

-- it asks for no value (FHIR R4, ElementDefinition, fixed[x] and pattern[x])
abbrev pub has_no_value : Element → Bool
has_no_value e = is_none e.fixed && is_none e.pattern

-- it bounds none
abbrev pub has_no_bound : Element → Bool
has_no_bound e = is_none e.min_value && (is_none e.max_value && is_none e.max_length)

-- it has no constraint that must hold
abbrev pub has_no_error : Element → Bool
has_no_error e = list_all (λ c. not (must_hold c)) e.constraints

-- it has neither a required binding nor such a constraint, and takes over nothing from another element
abbrev pub has_no_rule : Element → Bool
has_no_rule e = is_none (required_value_set e) && (has_no_error e && is_none e.content_reference)

-- it asks nothing of an item, but for its type and its children
abbrev pub is_bare : Element → Bool
is_bare e = has_no_value e && (has_no_bound e && has_no_rule e)

-- there need be none
abbrev pub may_be_absent : Element → Bool
may_be_absent e = option_map_or (λ least. nat_eq least 0) e.min true

-- ---- a node

abbrev pub slices_at : List Definition → NodeRef → List Slot
slices_at ds n = get_or (get_or (all_slices ds) n.definition []) n.element []

-- a slot of a node may be empty: its element may be absent, and has no slices
abbrev pub may_be_empty : List Definition → NodeRef → Slot → Bool
may_be_empty ds n slot =
    option_map_or may_be_absent (element_of ds (record { definition = n.definition; element = slot.entry })) true
    && is_empty (slices_at ds (record { definition = n.definition; element = slot.entry }))

-- the node asks nothing of an item without children, but for its type
abbrev pub asks_nothing : List Definition → NodeRef → Bool
asks_nothing ds n = option_map_or is_bare (element_of ds n) false && list_all (may_be_empty ds n) (slots_at ds n)

-- the place of the definition of the one type that is named
abbrev pub one_type : List Definition → List TypeEntry → Option ℕ
one_type ds [] = None
one_type ds (e ∷ []) = type_place ds e.code
one_type ds (e ∷ f ∷ es) = None

-- ---- all nodes

pub record Summary : Type 0 where
  -- it asks nothing of an item without children, but for its type
  pub is_lenient : Bool
  -- the place of the definition of its one type
  pub type : Option ℕ

abbrev pub summary_of : List Definition → NodeRef → Summary
summary_of ds n = record { is_lenient = asks_nothing ds n; type = option_map_or (λ e. one_type ds e.types) (element_of ds n) None }

-- those of the elements of the definition at a place
abbrev pub row_of : List Definition → ℕ → List Summary
row_of ds place = map (λ element. summary_of ds (record { definition = place; element = element })) (range_with_len 0 (length (elements_in ds place)))

abbrev pub all_summaries : List Definition → List (List Summary)
all_summaries ds = map (row_of ds) (range_with_len 0 (length ds))

-- what isn't there asks
abbrev pub unknown : Summary
unknown = record { is_lenient = false; type = None }

abbrev pub summary_at : List (List Summary) → NodeRef → Summary
summary_at rows n = get_or (get_or rows n.definition []) n.element unknown
