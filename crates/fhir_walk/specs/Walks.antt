-- What a walk tells of an item: what of a node's asks it passes where no unread rule holds (used by private contracts alone).
use Rattle.std.specs.Prelude.{◌≡◌, ℕ, List, [], Bool, true, false, ◌&&◌, Option, Some, IsTrue, if◌then◌else◌}
use Rattle.std.specs.List.{list_all}
use Rattle.std.specs.Option.{option_map_or}
use Rattle.fhir_json.specs.Tree.{Text}
use Rattle.fhir_elements.specs.Element.{Element}
use Rattle.fhir_nodes.specs.declared.node.NodeRef.{NodeRef}
use Rattle.fhir_schema.specs.Schemas.{SchemaValue, element_at, is_closed}
use Rattle.fhir_instance.specs.Items.{Item, kids_of}
use Rattle.fhir_facets.specs.Unread.{Meaning}
use Rattle.fhir_slicing.specs.Belonging.{is_apart, is_sliced}
use Rattle.fhir_conformance.specs.Positions.{kid_at, at_kid}
use Rattle.fhir_conformance.specs.Asks.{Ask, places_of, own_constraint_asks, constraint_asks, kids_asks}
use Rattle.fhir_conformance.specs.Conformance.{Around, constant, ask_conforms, resource_at, fixed_at, pattern_at, range_at, length_at, binding_at}

-- no unread rule holds
abbrev pub none : Meaning
none rule = false

-- an item, which stands there, passes what is asked
abbrev pub passes : SchemaValue → Around → Item → Ask → Bool
passes s here x ask = ask_conforms s (constant false) here x ask

abbrev pub pass_all : SchemaValue → Around → Item → List Ask → Bool
pass_all s here x asks = list_all (passes s here x) asks

-- it tells a test wherever the nearest resource around is that one
abbrev pub Tells : Item → (Around → Bool) → Bool → Type 0
Tells around test told = (here : Around) → here.nearest ≡ around → told ≡ test here

-- an item passes a node's own constraints, if there is that node
abbrev pub settled_pass : SchemaValue → Around → Item → Option NodeRef → Bool
settled_pass s here x settled = pass_all s here x (option_map_or (own_constraint_asks s) settled [])

-- it tells a test wherever the nearest resource around is that one, and the item passes the own constraints of a node
abbrev pub TellsBeside : SchemaValue → Item → Option NodeRef → Item → (Around → Bool) → Bool → Type 0
TellsBeside s x settled around test told =
    (here : Around) → here.nearest ≡ around → IsTrue (settled_pass s here x settled) → told ≡ test here

-- that is the nearest resource around the children of an item
abbrev pub IsAroundKids : SchemaValue → Item → Item → Around → Type 0
IsAroundKids s x around here = (i : ℕ) (kid : Item) → kid_at (kids_of x) i ≡ Some kid → resource_at s here x ≡ around

-- it tells a test wherever that is the nearest resource around the item's children
abbrev pub TellsOfKids : SchemaValue → Item → Item → (Around → Bool) → Bool → Type 0
TellsOfKids s x around test told = (here : Around) → IsAroundKids s x around here → told ≡ test here

-- ---- slices

-- the children of a name pass a test
abbrev pub named_pass : (Item → Bool) → Text → Item → Bool
named_pass test name x = list_all (at_kid true test x) (places_of name x)

-- no child of a name is in two slices of the node's element, and each is in one, if the slicing is closed
abbrev pub is_rightly_sliced : SchemaValue → NodeRef → Text → Item → Bool
is_rightly_sliced s n name x =
    named_pass (is_apart s n) name x && (if is_closed s n then named_pass (is_sliced s n) name x else true)

-- ---- the facets of an element

abbrev pub values_hold : Item → Element → Bool
values_hold x e = fixed_at x e && pattern_at x e

abbrev pub bounds_hold : Item → Element → Bool
bounds_hold x e = range_at none x e && length_at x e

abbrev pub facets_hold : SchemaValue → Item → Element → Bool
facets_hold s x e = values_hold x e && (bounds_hold x e && binding_at s none x e)

-- all that a node asks, but for the item's type
abbrev pub rest_holds : SchemaValue → Around → Item → NodeRef → Bool
rest_holds s here x n =
    option_map_or (facets_hold s x) (element_at s n) true && (pass_all s here x (constraint_asks s n) && pass_all s here x (kids_asks s x n))
