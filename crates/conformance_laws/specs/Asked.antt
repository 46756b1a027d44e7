-- What a node asks of an item, in one place: of its value, by constraints, by types, and of its children (FHIR R4, ElementDefinition;
-- Profiling; StructureDefinition, snapshot).
use Rattle.std.specs.Prelude.{◌≡◌, ◌⊎◌, [], Bool, true, not, ◌&&◌, ◌||◌, None, Some, IsTrue, if◌then◌else◌}
use Rattle.std.specs.List.{Contains, list_all, list_any}
use Rattle.std.specs.Option.{option_map_or}
use Rattle.fhir_json.specs.Tree.{Text}
use Rattle.fhir_json.specs.Bytes.{is_empty}
use Rattle.fhir_elements.specs.TypeEntry.{TypeEntry}
use Rattle.fhir_elements.specs.Constraint.{Constraint, must_hold}
use Rattle.fhir_elements.specs.Element.{Element, required_value_set}
use Rattle.fhir_nodes.specs.declared.node.NodeRef.{NodeRef}
use Rattle.fhir_nodes.specs.Types.{names_resource}
use Rattle.fhir_nodes.specs.Expressions.{expression_of}
use Rattle.fhir_schema.specs.Schemas.{SchemaValue, element_at, target, types, type_root, loaded}
use Rattle.fhir_schema.specs.Covers.{covers}
use Rattle.fhir_instance.specs.Items.{Item, type_of, json_of, has_kids}
use Rattle.fhir_fp_eval.specs.Meaning.{is_true}
use Rattle.fhir_facets.specs.Unread.{Meaning, unread_constraint, profile}
use Rattle.fhir_facets.specs.Seen.{Seen}
use Rattle.fhir_facets.specs.Values.{fixed_holds, pattern_holds, length_holds}
use Rattle.fhir_facets.specs.Ranges.{range_holds}
use Rattle.fhir_facets.specs.Targets.{targets_hold}
use Rattle.fhir_facets.specs.Bindings.{binding_to, binding_holds}
use Rattle.fhir_conformance.specs.Asks.{kids_asks}
use Rattle.fhir_conformance.specs.Conformance.{Interpretation, Around, ask_conforms, conforms}

module _ (s : SchemaValue) (meaning : Interpretation) (around : Around) (x : Item) where
  -- what an unread rule means where the item stands
  abbrev pub means : Meaning
  means rule = meaning rule around.outermost around.place

  -- what rules of values see of the item
  abbrev pub itself : Seen
  itself = record { type = type_of x; json = json_of x; has_kids = has_kids x }

  -- the nearest resource at or around the item
  abbrev pub nearest : Item
  nearest = if names_resource s.definitions (type_of x) then x else around.nearest

  -- ---- its value

  -- it is the fixed value, fits the pattern, lies within the bounds, is as short as it has to be, and is in the value set of a required
  -- binding: each where the element has such a rule
  abbrev pub meets_values : Element → Bool
  meets_values e =
      option_map_or (λ p. fixed_holds p.1 itself) e.fixed true
      && (option_map_or (λ p. pattern_holds p.1 itself) e.pattern true
      && (range_holds means (record { least = e.min_value; most = e.max_value }) itself
      && (option_map_or (λ most. length_holds most itself) e.max_length true
      && option_map_or (λ canonical. binding_holds means (binding_to s canonical) itself) (required_value_set e) true)))

  abbrev pub has_value_of : NodeRef → Bool
  has_value_of n = option_map_or meets_values (element_at s n) true

  -- ---- constraints

  -- one that must hold is true; where its expression isn't read, the unread rule holds
  abbrev pub meets : Constraint → Bool
  meets c =
      not (must_hold c)
      || option_map_or (λ e. is_true (record { schema = s; resource = nearest; context = x }) e x) (expression_of c) (means (unread_constraint c))

  abbrev pub meets_own : NodeRef → Bool
  meets_own n = option_map_or (λ e. list_all meets e.constraints) (element_at s n) true

  -- each of the node's own, and of those of the node that it refers to for its content
  abbrev pub meets_constraints_of : NodeRef → Bool
  meets_constraints_of n = meets_own n && option_map_or meets_own (target s n) true

  -- ---- types

  -- it conforms to the root of a profile; one that isn't there, or can't be used, is an unread rule
  abbrev pub has_profile : Text → Bool
  has_profile p = option_map_or (conforms s meaning around x) (loaded s p) (means (profile p))

  -- it is of an entry's type, its reference has one of the entry's targets, and it conforms to one of its profiles, where it names any
  abbrev pub is_of_entry : TypeEntry → Bool
  is_of_entry e = covers s e.code (type_of x) && targets_hold s means e itself && (is_empty e.profiles || list_any has_profile e.profiles)

  -- of one of the types, where the node names any
  abbrev pub is_of_types : NodeRef → Bool
  is_of_types n = is_empty (types s n) || list_any is_of_entry (types s n)

  -- it conforms to the definition of its own type, where that has a root
  abbrev pub is_of_own_type : Bool
  is_of_own_type = option_map_or (conforms s meaning around x) (type_root s (type_of x)) true

  -- ---- children

  -- all holds that the node asks of its children; what that is, name by name, is said by a law of its own
  abbrev pub has_children_of : NodeRef → Bool
  has_children_of n = list_all (ask_conforms s meaning around x) (kids_asks s x n)

-- The item conforms to a profile that a type names: to its root; or, where it isn't there or can't be used, the unread rule holds.
pub record HasProfile (s : SchemaValue) (meaning : Interpretation) (around : Around) (x : Item) (p : Text) : Type 0 where
  pub used : (r : NodeRef) → loaded s p ≡ Some r → IsTrue (conforms s meaning around x r)
  pub unread : loaded s p ≡ None → IsTrue (meaning (profile p) around.outermost around.place)

-- The item is of the type of an entry, its reference may have its target, and it conforms to one of the profiles, where there are any.
pub record IsOfEntry (s : SchemaValue) (meaning : Interpretation) (around : Around) (x : Item) (e : TypeEntry) : Type 0 where
  pub code : IsTrue (covers s e.code (type_of x))
  pub targets : IsTrue (targets_hold s (means s meaning around x) e (itself s meaning around x))
  pub profiles : (e.profiles ≡ []) ⊎ ((p : Text) × (Contains e.profiles p) × HasProfile s meaning around x p)
