-- Which nodes a profile asks which items of a resource to conform to, and which unread rules stand there.
use Rattle.std.specs.Prelude.{◌≡◌, ℕ, List, [], ◌∷◌, ◌++◌, Some, if◌then◌else◌}
use Rattle.std.specs.Option.{option_map_or}
use Rattle.std.specs.List.{Contains, flat_map}
use Rattle.fhir_elements.specs.TypeEntry.{TypeEntry}
use Rattle.fhir_elements.specs.Element.{Element, required_value_set}
use Rattle.fhir_nodes.specs.declared.node.NodeRef.{NodeRef}
use Rattle.fhir_schema.specs.Schemas.{SchemaValue, element_at, target, types}
use Rattle.fhir_schema.specs.Covers.{covers}
use Rattle.fhir_schema.specs.Expressions.{constraint_at}
use Rattle.fhir_instance.specs.Items.{Item, Place, kids_of, type_of}
use Rattle.fhir_facets.specs.Unread.{Unread}
use Rattle.fhir_facets.specs.Targets.{has_targets}
use Rattle.fhir_facets.specs.Bindings.{binding_to}
use Rattle.fhir_facets.specs.Carried.{range_unread, target_unread, profile_unread, binding_unread, constraint_unread}
use Rattle.fhir_conformance.specs.Positions.{kid_at}
use Rattle.fhir_conformance.specs.Asks.{ElementRuleName, range, binding, constraint, Ask, own, types as of_types, root, child, asks, profile as as_profile}
use Rattle.fhir_conformance.specs.Conformance.{seen, nearest_to}

-- The pairs of node and item that a resource meets, each with the nearest resource at or around the item: the profile's root
-- with the outermost item, and with a pair each that its node asks for.
pub data Met (s : SchemaValue) (outermost : Item) (profile : NodeRef) : Place → Item → Item → NodeRef → Type 0 where
  first : {place : Place} {resource x : Item} {n : NodeRef}
      → place ≡ [] → resource ≡ outermost → x ≡ outermost → n ≡ profile → Met s outermost profile place resource x n
  at_item : {place : Place} {resource x : Item} {n m : NodeRef}
      → Met s outermost profile place resource x n → Contains (asks s x n) (root m) → Met s outermost profile place resource x m
  at_profile : {place : Place} {resource x : Item} {n m : NodeRef}
      → Met s outermost profile place resource x n → Contains (asks s x n) (as_profile m) → Met s outermost profile place resource x m
  at_child : {place within : Place} {resource nearer x y : Item} {n m : NodeRef} (i : ℕ)
      → Met s outermost profile place resource x n → Contains (asks s x n) (child i m) → kid_at (kids_of x) i ≡ Some y
      → within ≡ place ++ i ∷ [] → nearer ≡ nearest_to s resource y → Met s outermost profile within nearer y m

-- ---- the unread rules that a node carries to an item

-- the targets and the profiles of a type entry, where its code covers the item's type
abbrev pub targets_unread : SchemaValue → TypeEntry → List Unread
targets_unread s e = if has_targets e then flat_map (target_unread s) e.targets else []

abbrev pub entry_unread : SchemaValue → Item → TypeEntry → List Unread
entry_unread s x e =
    if covers s e.code (type_of x) then targets_unread s e ++ flat_map (profile_unread s) e.profiles else []

-- that of an element's binding
abbrev pub set_unread : SchemaValue → Item → Element → List Unread
set_unread s x e = option_map_or (λ canonical. binding_unread (binding_to s canonical) (seen x)) (required_value_set e) []

abbrev pub element_unread : SchemaValue → Item → Element → List Unread
element_unread s x e = range_unread e ++ (set_unread s x e ++ flat_map constraint_unread e.constraints)

-- those of a node's constraints
abbrev pub constraints_unread : SchemaValue → NodeRef → List Unread
constraints_unread s n = option_map_or (λ e. flat_map constraint_unread e.constraints) (element_at s n) []

-- those of one ask: of a rule of a node, or of its types
abbrev pub rule_unread : SchemaValue → Item → ElementRuleName → NodeRef → List Unread
rule_unread s x range n = option_map_or range_unread (element_at s n) []
rule_unread s x binding n = option_map_or (set_unread s x) (element_at s n) []
rule_unread s x (constraint position) n = option_map_or constraint_unread (constraint_at s n position) []
rule_unread s x _ n = []

abbrev pub ask_unread : SchemaValue → Item → Ask → List Unread
ask_unread s x (own rule n) = rule_unread s x rule n
ask_unread s x (of_types n) = flat_map (entry_unread s x) (types s n)
ask_unread s x _ = []

-- those of a node: of its own, and of the constraints of the node that it refers to for its content
abbrev pub unread_at : SchemaValue → Item → NodeRef → List Unread
unread_at s x n =
    flat_map (entry_unread s x) (types s n)
    ++ (option_map_or (element_unread s x) (element_at s n) [] ++ option_map_or (constraints_unread s) (target s n) [])
