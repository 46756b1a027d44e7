-- What a node asks of an item (FHIR R4, ElementDefinition, Profiling, and StructureDefinition, snapshot), as a list of single
-- asks. Which they are hangs on the item alone, and on no meaning of unread rules.
use Rattle.std.specs.Prelude.{ℕ, suc, List, [], ◌∷◌, ◌++◌, map, filter, length, not, Option, None, Some, is_some, if◌then◌else◌}
use Rattle.std.specs.List.{flat_map, range_with_len, last_or}
use Rattle.std.specs.Option.{option_map_or}
use Rattle.std.specs.Str.{bytes_eq}
use Rattle.fhir_json.specs.Tree.{Text}
use Rattle.fhir_nodes.specs.declared.node.NodeRef.{NodeRef}
use Rattle.fhir_nodes.specs.Slots.{Slot}
use Rattle.fhir_elements.specs.TypeEntry.{TypeEntry}
use Rattle.fhir_json.specs.Bytes.{is_empty}
use Rattle.fhir_schema.specs.Schemas.{SchemaValue, is_root_node, element_at, target, holder, slots, slices, is_closed, entry_of, type_root, loaded, types as node_types}
use Rattle.fhir_schema.specs.Covers.{covers}
use Rattle.fhir_facets.specs.Order.{is_ordered, is_open_at_end, may_follow}
use Rattle.fhir_conformance.specs.Positions.{members, slice_place}
use Rattle.fhir_instance.specs.Items.{Item, Kids, no_kids, kid, kids_of, type_of}

-- a rule that is judged at an item by itself
pub data ElementRuleName : Type 0 where
  -- the item is of the type that the root's definition defines or constrains
  root_type : ElementRuleName
  fixed pattern range length_limit binding : ElementRuleName
  -- the children of a name are enough, and not too many
  too_few too_many : (name : List ℕ) → ElementRuleName
  -- so are those of them that belong to the slice which the node is
  too_few_in too_many_in : (name : List ℕ) → ElementRuleName
  -- the child at that position is in no two of the element's slices, and in one of them
  apart in_a_slice : (position : ℕ) → ElementRuleName
  -- the child at a position isn't in a slice before that of an earlier child
  in_order : (earlier position : ℕ) → ElementRuleName
  -- the child at that position, which stands behind one that is in none of the element's slices, is in none either
  in_the_rest : (position : ℕ) → ElementRuleName
  -- the constraint at that position among the element's
  constraint : (position : ℕ) → ElementRuleName

pub data Ask : Type 0 where
  -- a rule of that node's element
  own : ElementRuleName → NodeRef → Ask
  -- the item is of one of the node's types, and conforms to one of the profiles that the type names
  types : NodeRef → Ask
  -- Whether the item conforms to that root is asked, since a type names it as a profile. The item needn't: one profile
  -- of several is enough.
  profile : NodeRef → Ask
  -- the item itself conforms to that root too
  root : NodeRef → Ask
  -- the child at that position among all children conforms to the node
  child : ℕ → NodeRef → Ask

-- ---- children

-- the positions of the children of a name, where the first child's is that number
abbrev pub places_from : ℕ → Text → Kids → List ℕ
places_from i name no_kids = []
places_from i name (kid other x kids) =
    if bytes_eq name other then i ∷ places_from (suc i) name kids else places_from (suc i) name kids

abbrev pub places_of : Text → Item → List ℕ
places_of name x = places_from 0 name (kids_of x)

-- ---- asks

abbrev pub facet_asks : NodeRef → List Ask
facet_asks n = own fixed n ∷ own pattern n ∷ own range n ∷ own length_limit n ∷ own binding n ∷ []

abbrev pub constraint_ask : NodeRef → ℕ → Ask
constraint_ask n position = own (constraint position) n

abbrev pub own_constraint_asks : SchemaValue → NodeRef → List Ask
own_constraint_asks s n = map (constraint_ask n) (range_with_len 0 (option_map_or (λ e. length e.constraints) (element_at s n) 0))

-- the node's own, and then those of the node that it refers to for its content
abbrev pub constraint_asks : SchemaValue → NodeRef → List Ask
constraint_asks s n = own_constraint_asks s n ++ option_map_or (own_constraint_asks s) (target s n) []

abbrev pub child_ask : NodeRef → ℕ → Ask
child_ask n i = child i n

abbrev pub apart_ask : NodeRef → ℕ → Ask
apart_ask n i = own (apart i) n

abbrev pub in_slice_ask : NodeRef → ℕ → Ask
in_slice_ask n i = own (in_a_slice i) n

-- of the children of a name, which stand at these places: those that belong to a slice conform to it, and are enough, and not
-- too many
abbrev pub slice_asks : SchemaValue → Item → Text → List ℕ → NodeRef → Slot → List Ask
slice_asks s x name places n slice =
    map (child_ask (entry_of n slice)) (members s x (entry_of n slice) places)
    ++ own (too_few_in name) (entry_of n slice) ∷ own (too_many_in name) (entry_of n slice) ∷ []

-- Where the slicing is ordered, no child comes behind one that is in a later slice (FHIR R4, ElementDefinition, slicing.ordered). That
-- is asked of each that does, and of the nearest such before it.
abbrev pub order_ask : SchemaValue → Item → NodeRef → (earlier : List ℕ) → ℕ → List Ask
order_ask s x n earlier i =
    option_map_or (λ j. own (in_order j i) n ∷ []) (last_or None (filter (λ j. not (may_follow (slice_place s x n j) (slice_place s x n i))) earlier)) []

-- of the children at these places, which stand behind those at the earlier ones
abbrev pub order_asks : SchemaValue → Item → NodeRef → (earlier places : List ℕ) → List Ask
order_asks s x n earlier [] = []
order_asks s x n earlier (i ∷ is) = order_ask s x n earlier i ++ order_asks s x n (earlier ++ i ∷ []) is

-- Where the slicing is open at its end, each child behind the first that is in none of the slices is in none (FHIR R4,
-- ElementDefinition, slicing.rules).
abbrev pub behind_rest : SchemaValue → Item → NodeRef → List ℕ → List ℕ
behind_rest s x n [] = []
behind_rest s x n (i ∷ is) = if is_some (slice_place s x n i) then behind_rest s x n is else is

abbrev pub rest_ask : NodeRef → ℕ → Ask
rest_ask n i = own (in_the_rest i) n

-- how the children stand to one another
abbrev pub sequence_asks : SchemaValue → Item → NodeRef → List ℕ → List Ask
sequence_asks s x n places =
    (if is_ordered s n then order_asks s x n [] places else [])
    ++ (if is_open_at_end s n then map (rest_ask n) (behind_rest s x n places) else [])

-- where the element has slices: no child is in two of them, what each slice asks, each child is in one, if the slicing is
-- closed, and they stand as the slicing says
abbrev pub sliced_asks : SchemaValue → Item → Text → List ℕ → NodeRef → List Ask
sliced_asks s x name places n =
    if is_empty (slices s n) then []
    else map (apart_ask n) places
    ++ (flat_map (slice_asks s x name places n) (slices s n)
    ++ ((if is_closed s n then map (in_slice_ask n) places else []) ++ sequence_asks s x n places))

-- the number of children of a name, then each of them by itself, and then by the slices
abbrev pub named_asks : SchemaValue → Item → Text → List ℕ → NodeRef → List Ask
named_asks s x name places n =
    own (too_few name) n ∷ own (too_many name) n ∷ map (child_ask n) places ++ sliced_asks s x name places n

abbrev pub slot_asks : SchemaValue → Item → NodeRef → Slot → List Ask
slot_asks s x n slot = named_asks s x slot.name (places_of slot.name x) (entry_of n slot)

-- the roots of the profiles that a type names, where its code covers the item's type; a profile that can't be used has none
abbrev pub roots_named : SchemaValue → List Text → List NodeRef
roots_named s profiles = flat_map (λ p. option_map_or (λ r. r ∷ []) (loaded s p) []) profiles

abbrev pub entry_roots : SchemaValue → Item → TypeEntry → List NodeRef
entry_roots s x e = if covers s e.code (type_of x) then roots_named s e.profiles else []

abbrev pub profile_asks : SchemaValue → Item → NodeRef → List Ask
profile_asks s x n = map profile (flat_map (entry_roots s x) (node_types s n))

abbrev pub own_root : Option NodeRef → List Ask
own_root None = []
own_root (Some r) = root r ∷ []

module _ (s : SchemaValue) (x : Item) where
  abbrev pub slots_ask : NodeRef → List Ask
  slots_ask h = flat_map (slot_asks s x h) (slots s h)

  -- the children are asked by the slots of the node that has the node's children
  abbrev pub kids_asks : NodeRef → List Ask
  kids_asks n = option_map_or slots_ask (holder s n) []

  abbrev pub root_asks : NodeRef → List Ask
  root_asks r = own root_type r ∷ facet_asks r ++ (constraint_asks s r ++ kids_asks r)

  -- of a node that is no root: there the item also conforms to the definition of its own type, where that has a root
  abbrev pub inner_asks : NodeRef → List Ask
  inner_asks n =
      types n ∷ facet_asks n ++ (constraint_asks s n ++ (own_root (type_root s (type_of x)) ++ (profile_asks s x n ++ kids_asks n)))

  abbrev pub asks : NodeRef → List Ask
  asks n = if is_root_node s n then root_asks n else inner_asks n
