-- Of which types the items of an element can be (FHIR R4, JSON representation of resources): type definitions alone say so, and never
-- a profile.
use Rattle.std.specs.Prelude.{◌≡◌, ℕ, List, [], ◌∷◌, map, filter, length, Bool, ◌&&◌, ◌||◌, nat_le, Option, None, Some, is_some, IsTrue, if◌then◌else◌}
use Rattle.std.specs.List.{list_any}
use Rattle.std.specs.Option.{option_map_or, option_and_then, option_or}
use Rattle.fhir_json.specs.Tree.{Text, Tree}
use Rattle.fhir_nodes.specs.declared.node.NodeRef.{NodeRef}
use Rattle.fhir_nodes.specs.Types.{names_resource, primitive_of, is_system}
use Rattle.fhir_nodes.specs.Slots.{Slot}
use Rattle.fhir_nodes.specs.Holders.{typing_entries}
use Rattle.fhir_forms.specs.Criteria.{sole}
use Rattle.fhir_schema.specs.Schemas.{SchemaValue, has, element_at, slot_named, entry_of, types, child_holder, type_root}
use Rattle.fhir_schema.specs.Covers.{covers}
use Rattle.fhir_instance.specs.Items.{Item, Kids, no_kids, kid, Named, kids_of, kids_in}
use Rattle.fhir_instance.specs.Typing.{kids_as}
use Rattle.fhir_instance.specs.declared.role.ObjectRole.{ObjectRole}
use Rattle.fhir_conformance.specs.Conformance.{is_untyped}

-- ---- items by the node of a type's definition

-- The item's children are those of an object that the node types, as that of an element, of a resource or of a companion.
pub record IsObjectOf (s : SchemaValue) (by : NodeRef) (x : Item) : Type 0 where
  pub tree : Tree
  pub role : ObjectRole
  pub kids : List Named
  pub typed : kids_as s tree (record { node = by; role = role }) ≡ Some kids
  pub children : kids_of x ≡ kids_in kids

-- so they are, where it has any
pub data IsTypedBy (s : SchemaValue) (by : NodeRef) (x : Item) : Type 0 where
  childless : kids_of x ≡ no_kids → IsTypedBy s by x
  an_object : IsObjectOf s by x → IsTypedBy s by x

-- where it is known which node types the item: one of a definition that can be used
abbrev pub IsTypedIfKnown : SchemaValue → Option NodeRef → Item → Type 0
IsTypedIfKnown s by x = (b : NodeRef) → by ≡ Some b → IsTrue (has s b) × IsTypedBy s b x

-- the children of an item with their names
abbrev pub children_of : Kids → List Named
children_of no_kids = []
children_of (kid name x kids) = (name, x) ∷ children_of kids

-- ---- the types that items can have

-- the codes of the types of a type's element
abbrev pub type_codes : SchemaValue → NodeRef → List Text
type_codes s k = option_map_or (λ e. map (λ entry. entry.code) (typing_entries s.definitions k e)) (element_at s k) []

-- the codes of the types that children of a name can have, where a node of a type's definition types their parent
abbrev pub codes_under : SchemaValue → NodeRef → Text → List Text
codes_under s by name = option_map_or (λ slot. type_codes s (entry_of by slot)) (slot_named s by name) []

-- an item of a type of the one code may be one that the other code allows; where any resource may stand, its code allows it that of
-- any resource
abbrev pub may_be : SchemaValue → Text → Text → Bool
may_be s allowed code = if names_resource s.definitions code then names_resource s.definitions allowed else covers s allowed code

-- one of the node's types allows the code, where it names any
abbrev pub allows_code : SchemaValue → NodeRef → Text → Bool
allows_code s n code = is_untyped s n || list_any (λ entry. may_be s entry.code code) (types s n)

-- ---- the node that types the children of an item

abbrev pub is_plain : SchemaValue → Text → Bool
is_plain s code = is_system code || names_resource s.definitions code || is_some (primitive_of s.definitions code)

-- of an item of a type of that code, which stands at an element of a type
abbrev pub typed_inside : SchemaValue → NodeRef → Text → Option NodeRef
typed_inside s k code = if is_plain s code then None else option_or (child_holder s k) (type_root s code)

abbrev pub typed_at_slot : SchemaValue → NodeRef → NodeRef → Slot → Option NodeRef
typed_at_slot s by n slot =
    option_and_then (typed_inside s (entry_of by slot)) (sole (filter (allows_code s n) (type_codes s (entry_of by slot))))

-- of the items of a node that stand under a name, where they can be of one type alone
abbrev pub typed_under : SchemaValue → NodeRef → Text → NodeRef → Option NodeRef
typed_under s by name n = option_and_then (typed_at_slot s by n) (slot_named s by name)

-- ---- the same where types are few, since each is compared with each

-- the node of a type's definition that types the parents of a node's items, with the items' name
abbrev pub Under : Type 0
Under = NodeRef × Text

abbrev pub max_types : ℕ
max_types = 64

abbrev pub are_few : {A : Type 0} → List A → Bool
are_few xs = nat_le (length xs) max_types

abbrev pub are_few_under : SchemaValue → Under → NodeRef → Bool
are_few_under s u n = are_few (types s n) && are_few (codes_under s u.0 u.1)

-- by which node the children of a node's items are typed, where it is known what the items stand under
abbrev pub typed_by : SchemaValue → Option Under → NodeRef → Option NodeRef
typed_by s under n = option_and_then (λ u. if are_few_under s u n then typed_under s u.0 u.1 n else None) under
