-- When an item conforms to a node, and a resource to a profile (FHIR R4, Profiling and ElementDefinition): where all holds
-- that the node asks of it. An item is folded into its test of nodes: what is asked of a child is asked of the child's test.
use Rattle.std.specs.Prelude.{◌≡◌, ℕ, suc, List, [], ◌∷◌, ◌++◌, length, get_or, is_none, Bool, true, not, ◌&&◌, ◌||◌, nat_eq, Some, IsTrue, if◌then◌else◌}
use Rattle.std.specs.Option.{option_map_or}
use Rattle.std.specs.List.{list_all, list_any}
use Rattle.fhir_json.specs.Tree.{Text, Tree}
use Rattle.fhir_json.specs.Bytes.{is_empty}
use Rattle.fhir_elements.specs.TypeEntry.{TypeEntry}
use Rattle.fhir_elements.specs.Constraint.{Constraint, must_hold}
use Rattle.fhir_elements.specs.Element.{Element, required_value_set}
use Rattle.fhir_nodes.specs.declared.node.NodeRef.{NodeRef}
use Rattle.fhir_nodes.specs.Types.{names_resource}
use Rattle.fhir_schema.specs.Schemas.{SchemaValue, element_at, is_root_node, root, types, loaded}
use Rattle.fhir_schema.specs.Covers.{covers, type_at}
use Rattle.fhir_nodes.specs.Expressions.{expression_of}
use Rattle.fhir_schema.specs.Expressions.{constraint_at}
use Rattle.fhir_instance.specs.Items.{Item, item, Kids, no_kids, kid, Place, type_of, json_of, has_kids, kids_of}
use Rattle.fhir_instance.specs.Typing.{Types}
use Rattle.fhir_fp_eval.specs.Meaning.{is_true}
use Rattle.fhir_facets.specs.Unread.{Unread, Meaning, Reading, meaning_of, unread_constraint}
use Rattle.fhir_facets.specs.Unread.{profile as unread_profile}
use Rattle.fhir_facets.specs.Seen.{Seen}
use Rattle.fhir_facets.specs.Values.{fixed_holds, pattern_holds, length_holds}
use Rattle.fhir_facets.specs.Ranges.{Range, range_holds}
use Rattle.fhir_facets.specs.Targets.{targets_hold}
use Rattle.fhir_facets.specs.Bindings.{binding_to, binding_holds, IsFair}
use Rattle.fhir_facets.specs.Cardinality.{are_enough, are_within}
use Rattle.fhir_facets.specs.Order.{may_follow}
use Rattle.fhir_slicing.specs.Belonging.{is_apart, is_sliced}
use Rattle.fhir_conformance.specs.Asks.{ElementRuleName, root_type, fixed, pattern, range, length_limit, binding, too_few, too_many, too_few_in, too_many_in, apart, in_a_slice, in_order, in_the_rest, constraint}
use Rattle.fhir_conformance.specs.Asks.{Ask, own, types as of_types, profile as as_profile, root as as_root, child, places_of, root_asks, inner_asks}
use Rattle.fhir_conformance.specs.Positions.{at_kid, members, slice_place}

abbrev pub seen : Item → Seen
seen x = record { type = type_of x; json = json_of x; has_kids = has_kids x }

abbrev pub count_of : Text → Item → ℕ
count_of name x = length (places_of name x)

-- how many of the children of a name belong to the slice that the node is
abbrev pub count_in : SchemaValue → NodeRef → Text → Item → ℕ
count_in s n name x = length (members s x n (places_of name x))

-- ---- the rules of an element, where unread rules mean so

abbrev pub fixed_at : Item → Element → Bool
fixed_at x e = option_map_or (λ p. fixed_holds p.1 (seen x)) e.fixed true

abbrev pub pattern_at : Item → Element → Bool
pattern_at x e = option_map_or (λ p. pattern_holds p.1 (seen x)) e.pattern true

abbrev pub range_of : Element → Range
range_of e = record { least = e.min_value; most = e.max_value }

abbrev pub range_at : Meaning → Item → Element → Bool
range_at m x e = range_holds m (range_of e) (seen x)

abbrev pub length_at : Item → Element → Bool
length_at x e = option_map_or (λ most. length_holds most (seen x)) e.max_length true

abbrev pub binding_at : SchemaValue → Meaning → Item → Element → Bool
binding_at s m x e = option_map_or (λ canonical. binding_holds m (binding_to s canonical) (seen x)) (required_value_set e) true

-- its expression is true of the item, where that is the nearest resource at or around it (FHIR R4, FHIRPath, variables)
abbrev pub constraint_holds : SchemaValue → Meaning → Item → Item → Constraint → Bool
constraint_holds s m resource x c =
    option_map_or (λ e. is_true (record { schema = s; resource = resource; context = x }) e x) (expression_of c) (m (unread_constraint c))

-- a constraint that needn't hold is passed over
abbrev pub constraint_passes : SchemaValue → Meaning → Item → Item → Constraint → Bool
constraint_passes s m resource x c = not (must_hold c) || constraint_holds s m resource x c

-- the element of a node passes a test; what is no node asks for nothing
abbrev pub at_element : SchemaValue → (Element → Bool) → NodeRef → Bool
at_element s test n = option_map_or test (element_at s n) true

-- the node names no types
abbrev pub is_untyped : SchemaValue → NodeRef → Bool
is_untyped s n = nat_eq (length (types s n)) 0

-- a type entry's code covers the item's type, and its targets hold
abbrev pub entry_allows : SchemaValue → Meaning → Item → TypeEntry → Bool
entry_allows s m x e = covers s e.code (type_of x) && targets_hold s m e (seen x)

-- where these are the roots that the item conforms to
module _ (s : SchemaValue) (m : Meaning) (roots : NodeRef → Bool) (x : Item) where
  -- the item conforms to the profile; one that isn't there, or can't be used, is an unread rule
  abbrev pub profile_holds : Text → Bool
  profile_holds p = option_map_or roots (loaded s p) (m (unread_profile p))

  -- to one of the profiles, where there are any
  abbrev pub profiles_hold : List Text → Bool
  profiles_hold profiles = is_empty profiles || list_any profile_holds profiles

  abbrev pub entry_holds : TypeEntry → Bool
  entry_holds e = entry_allows s m x e && profiles_hold e.profiles

  -- the item is of one of the node's types, where it names any
  abbrev pub types_hold : NodeRef → Bool
  types_hold n = is_untyped s n || list_any entry_holds (types s n)

-- the rules of a node, where that is the nearest resource at or around the item
module _ (s : SchemaValue) (m : Meaning) (resource x : Item) where
  abbrev pub rule_holds : ElementRuleName → NodeRef → Bool
  rule_holds root_type n = covers s (type_at s n) (type_of x)
  rule_holds fixed n = at_element s (fixed_at x) n
  rule_holds pattern n = at_element s (pattern_at x) n
  rule_holds range n = at_element s (range_at m x) n
  rule_holds length_limit n = at_element s (length_at x) n
  rule_holds binding n = at_element s (binding_at s m x) n
  rule_holds (too_few name) n = at_element s (λ e. are_enough e (count_of name x)) n
  rule_holds (too_many name) n = at_element s (λ e. are_within e (count_of name x)) n
  rule_holds (too_few_in name) n = at_element s (λ e. are_enough e (count_in s n name x)) n
  rule_holds (too_many_in name) n = at_element s (λ e. are_within e (count_in s n name x)) n
  rule_holds (apart position) n = at_kid true (is_apart s n) x position
  rule_holds (in_a_slice position) n = at_kid true (is_sliced s n) x position
  rule_holds (in_order earlier position) n = may_follow (slice_place s x n earlier) (slice_place s x n position)
  rule_holds (in_the_rest position) n = is_none (slice_place s x n position)
  rule_holds (constraint position) n = option_map_or (constraint_passes s m resource x) (constraint_at s n position) true

  -- ---- all that a node asks, where these are the roots that the item conforms to, and these the tests of its children

  module _ (kids : List (NodeRef → Bool)) where
    abbrev pub ask_holds : (NodeRef → Bool) → Ask → Bool
    ask_holds roots (own rule n) = rule_holds rule n
    ask_holds roots (of_types n) = types_hold s m roots x n
    ask_holds roots (as_profile r) = true
    ask_holds roots (as_root r) = roots r
    ask_holds roots (child i n) = get_or kids i (λ n. true) n

    -- a root asks for no other root
    abbrev pub root_holds : NodeRef → Bool
    root_holds r = list_all (ask_holds (λ r. true)) (root_asks s x r)

    abbrev pub inner_holds : NodeRef → Bool
    inner_holds n = list_all (ask_holds root_holds) (inner_asks s x n)

    abbrev pub item_holds : NodeRef → Bool
    item_holds n = if is_root_node s n then root_holds n else inner_holds n

-- ---- items in a resource

-- What the unread rules mean: whether each holds at a place in an outermost item. Any test may be meant.
abbrev pub Interpretation : Type 0
Interpretation = Unread → Item → Place → Bool

-- where an item stands: the outermost item, the place in that, and the nearest resource around it
pub record Around : Type 0 where
  pub outermost : Item
  pub place : Place
  pub nearest : Item

abbrev pub meaning_at : Interpretation → Around → Meaning
meaning_at meaning around rule = meaning rule around.outermost around.place

abbrev pub is_resource_item : SchemaValue → Item → Bool
is_resource_item s x = names_resource s.definitions (type_of x)

-- the nearest resource at or around an item, where that is the nearest around it
abbrev pub nearest_to : SchemaValue → Item → Item → Item
nearest_to s around x = if is_resource_item s x then x else around

abbrev pub resource_at : SchemaValue → Around → Item → Item
resource_at s around x = nearest_to s around.nearest x

-- where the children of an item stand, but for their positions
abbrev pub inside : SchemaValue → Around → Item → Around
inside s around x = record { outermost = around.outermost; place = around.place; nearest = resource_at s around x }

-- where the child at a position among all children stands
abbrev pub below : Around → ℕ → Around
below around position = record {
  outermost = around.outermost;
  place = around.place ++ position ∷ [];
  nearest = around.nearest;
}

abbrev mutual
  -- the item, which stands there, conforms to the node
  pub conforms : SchemaValue → Interpretation → Around → Item → NodeRef → Bool
  conforms s meaning around (item type json kids) =
      item_holds s (meaning_at meaning around) (resource_at s around (item type json kids)) (item type json kids)
      (kid_tests s meaning (inside s around (item type json kids)) 0 kids)

  -- the tests of the children, whose positions begin at a number
  pub kid_tests : SchemaValue → Interpretation → Around → ℕ → Kids → List (NodeRef → Bool)
  kid_tests s meaning around position no_kids = []
  kid_tests s meaning around position (kid name x kids) =
      conforms s meaning (below around position) x ∷ kid_tests s meaning around (suc position) kids

-- where an item stands, as far as its place and the nearest resource around it tell
abbrev pub around_of : Item → Place → Item → Around
around_of outermost place nearest = record { outermost = outermost; place = place; nearest = nearest }

-- what is asked holds of the item, which stands there
abbrev pub ask_conforms : SchemaValue → Interpretation → Around → Item → Ask → Bool
ask_conforms s meaning around x ask =
    ask_holds s (meaning_at meaning around) (resource_at s around x) x (kid_tests s meaning (inside s around x) 0 (kids_of x)) (conforms s meaning around x) ask

-- an item that stands in no other
abbrev pub outermost : Item → Around
outermost x = record { outermost = x; place = []; nearest = x }

-- each unread rule holds everywhere, or none does anywhere
abbrev pub constant : Bool → Interpretation
constant b rule outermost place = b

-- they are read so everywhere, where a user vouches for those with these texts
abbrev pub as_read : List Text → Reading → Interpretation
as_read texts r rule outermost place = meaning_of texts r rule

-- What unread rules mean is fair at each place: where a binding holds, so does one to a larger set.
abbrev pub IsFairEverywhere : SchemaValue → Interpretation → Type 0
IsFairEverywhere s meaning = (outermost : Item) (place : Place) → IsFair s (λ rule. meaning rule outermost place)

-- A resource conforms to a profile: its item conforms to the profile's root.
pub record Conforms (s : SchemaValue) (meaning : Interpretation) (profile : Text) (t : Tree) : Type 0 where
  pub node : NodeRef
  pub itself : Item
  pub usable : root s profile ≡ Some node
  pub typed : Types s t itself
  pub holds : IsTrue (conforms s meaning (outermost itself) itself node)
