-- What an issue says, and when it is right: it fails at a pair of node and item that the resource meets, whatever unread rules
-- mean. And when a site is: an unread rule that such a pair's node asks for, where something hangs on it. Both name the node by
-- the url of its definition and by its id.
use Rattle.std.specs.Prelude.{◌≡◌, ℕ, List, [], true, false, Option, None, Some, IsTrue}
use Rattle.std.specs.Option.{option_map_or, option_and_then}
use Rattle.std.specs.List.{Contains}
use Rattle.fhir_json.specs.Tree.{Text, Tree}
use Rattle.fhir_elements.specs.declared.max.Max.{Max}
use Rattle.fhir_elements.specs.Element.{required_value_set}
use Rattle.fhir_nodes.specs.declared.node.NodeRef.{NodeRef}
use Rattle.fhir_schema.specs.Schemas.{SchemaValue, element_at, root, url_at, id_of_node}
use Rattle.fhir_schema.specs.Covers.{type_at}
use Rattle.fhir_schema.specs.Expressions.{constraint_at}
use Rattle.fhir_instance.specs.Items.{Item, Place, kids_of}
use Rattle.fhir_instance.specs.Typing.{Types}
use Rattle.fhir_facets.specs.Cardinality.{least_of}
use Rattle.fhir_facets.specs.Unread.{Reading, strict, as_given, lenient, meaning_of}
use Rattle.fhir_facets.specs.Views.{unread_seen}
use Rattle.fhir_slicing.specs.Belonging.{two_slices}
use Rattle.fhir_conformance.specs.Asks as asked
use Rattle.fhir_conformance.specs.Asks.{ElementRuleName, Ask, own, asks}
use Rattle.fhir_conformance.specs.Positions.{kid_at, slice_at}
use Rattle.fhir_conformance.specs.Conformance.{count_of, count_in, constant, as_read, around_of, ask_conforms}
use Rattle.fhir_conformance.specs.Meeting.{Met, ask_unread}
use Rattle.fhir_validator.specs.declared.broken_rule.BrokenRule.{BrokenRule}
use Rattle.fhir_validator.specs.declared.broken_rule.BrokenRule.TheVariants.{RootType, Types as OfTypes, Fixed, Pattern, Range, Length, Binding, TooFew, TooMany, InSlices, InNoSlice, After, AfterRest, Constraint}
use Rattle.fhir_validator.specs.declared.issue.Breach.{Breach}
use Rattle.fhir_validator.specs.declared.issue.Issue.{Issue}
use Rattle.fhir_validator.specs.declared.issue.Issue.TheVariants.{Misfit, Broken}
use Rattle.fhir_validator.specs.declared.issue.Site.{Site}

-- ---- what is said of a rule

pub data Said : Type 0 where
  -- the type that is asked for
  root_type : (type : List ℕ) → Said
  types fixed pattern range length_limit : Said
  -- the value set that is asked for
  binding : (canonical : List ℕ) → Said
  -- how many are asked for, and how many there are
  too_few : (min found : ℕ) → Said
  too_many : (max : Option Max) (found : ℕ) → Said
  -- two slices that an item is in, by their names; or that it is in none
  in_slices : (one other : List ℕ) → Said
  in_no_slice : Said
  -- the slice that an item is in, and that of an earlier one, which it may not follow; or an earlier one is in none
  after : (slice other : List ℕ) → Said
  after_rest : (slice : List ℕ) → Said
  -- the constraint's key
  constraint : (key : List ℕ) → Said

abbrev pub rule_said : BrokenRule → Said
rule_said (RootType code) = root_type code.now
rule_said OfTypes = types
rule_said Fixed = fixed
rule_said Pattern = pattern
rule_said Range = range
rule_said Length = length_limit
rule_said (Binding canonical) = binding canonical.now
rule_said (TooFew min found) = too_few min found
rule_said (TooMany max found) = too_many max found
rule_said (InSlices one other) = in_slices one.now other.now
rule_said InNoSlice = in_no_slice
rule_said (After slice other) = after slice.now other.now
rule_said (AfterRest slice) = after_rest slice.now
rule_said (Constraint key) = constraint key.now

-- the value set that a node asks for, or the empty text
abbrev pub set_at : SchemaValue → NodeRef → Text
set_at s n = option_map_or (λ canonical. canonical) (option_and_then required_value_set (element_at s n)) []

-- the key of a constraint of a node, or the empty text
abbrev pub key_at : SchemaValue → NodeRef → ℕ → Text
key_at s n position = option_map_or (λ c. c.key) (constraint_at s n position) []

-- the names of the first two slices of a node's element that a child is in, or the empty texts
abbrev pub slices_said : SchemaValue → NodeRef → Option Item → Said
slices_said s n child =
    option_map_or (λ two. in_slices two.0.name two.1.name) (option_and_then (two_slices s n) child) (in_slices [] [])

-- the name of the first slice of a node's element that the child at a position is in, or the empty text
abbrev pub slice_name : SchemaValue → Item → NodeRef → ℕ → Text
slice_name s x n position = option_map_or (λ slice. slice.name) (slice_at s x n position) []

-- what is to be said of a rule of a node, at an item
abbrev pub says : SchemaValue → Item → ElementRuleName → NodeRef → Said
says s x asked.root_type n = root_type (type_at s n)
says s x asked.fixed n = fixed
says s x asked.pattern n = pattern
says s x asked.range n = range
says s x asked.length_limit n = length_limit
says s x asked.binding n = binding (set_at s n)
says s x (asked.too_few name) n = too_few (option_map_or least_of (element_at s n) 0) (count_of name x)
says s x (asked.too_many name) n = too_many (option_and_then (λ e. e.max) (element_at s n)) (count_of name x)
says s x (asked.too_few_in name) n = too_few (option_map_or least_of (element_at s n) 0) (count_in s n name x)
says s x (asked.too_many_in name) n = too_many (option_and_then (λ e. e.max) (element_at s n)) (count_in s n name x)
says s x (asked.apart position) n = slices_said s n (kid_at (kids_of x) position)
says s x (asked.in_a_slice position) n = in_no_slice
says s x (asked.in_order earlier position) n = after (slice_name s x n position) (slice_name s x n earlier)
says s x (asked.in_the_rest position) n = after_rest (slice_name s x n position)
says s x (asked.constraint position) n = constraint (key_at s n position)

-- the child at which a rule is told, where it is one of a child; of two, the later
abbrev pub told_child : ElementRuleName → Option ℕ
told_child (asked.apart position) = Some position
told_child (asked.in_a_slice position) = Some position
told_child (asked.in_order earlier position) = Some position
told_child (asked.in_the_rest position) = Some position
told_child _ = None

-- ---- issues

-- the url of a node's definition, and the node's id
abbrev pub IsNamed : SchemaValue → NodeRef → Text → Text → Type 0
IsNamed s n url id = (url ≡ url_at s n.definition) × (id ≡ id_of_node s n)

-- the node at which a rule of m is told that n asks: a constraint at n, which takes it over where m is its content target
abbrev pub told_at : NodeRef → ElementRuleName → NodeRef → NodeRef
told_at n (asked.constraint position) m = n
told_at n _ m = m

-- the node at which an ask of n is told, with what is to be said of it; nothing is said of what another pair is asked
abbrev pub told_of : SchemaValue → Item → NodeRef → Ask → Option (NodeRef × Said)
told_of s x n (own rule m) = Some (told_at n rule m, says s x rule m)
told_of s x n (asked.types m) = Some (m, types)
told_of s x n (asked.profile r) = None
told_of s x n (asked.root r) = None
told_of s x n (asked.child i m) = None

-- It is one that the node of a pair asks, and it fails there where each unread rule holds. `outermost` is the item of the
-- resource, and `profile` the root that it was judged against.
pub record IsBroken (s : SchemaValue) (outermost : Item) (profile : NodeRef) (breach : Breach) : Type 0 where
  pub place : Place
  pub resource : Item
  pub itself : Item
  pub node : NodeRef
  pub ask : Ask
  pub met : Met s outermost profile place resource itself node
  pub asked : Contains (asks s itself node) ask
  pub fails : ask_conforms s (constant true) (around_of outermost place resource) itself ask ≡ false
  pub told : told_of s itself node ask ≡ Some (breach.node, rule_said breach.rule)
  pub named : IsNamed s breach.node breach.url.now breach.id.now

-- a misfit says that the tree has no item
abbrev pub IsIssue : SchemaValue → Text → Tree → Issue → Type 0
IsIssue s profile t (Misfit misfit) = (x : Item) → Types s t x → ⊥
IsIssue s profile t (Broken breach) =
    (n : NodeRef) × (x : Item) × (root s profile ≡ Some n) × Types s t x × IsBroken s x n breach

-- ---- sites

-- What the node of a pair asks holds by one reading of the unread rules and not by another, and so does this one of them, on which
-- it hangs.
pub record IsHangingAt (s : SchemaValue) (texts : List Text) (lower upper : Reading) (outermost : Item) (profile : NodeRef) (site : Site) : Type 0 where
  pub place : Place
  pub resource : Item
  pub itself : Item
  pub node : NodeRef
  pub ask : Ask
  pub said : Said
  pub met : Met s outermost profile place resource itself node
  pub asked : Contains (asks s itself node) ask
  pub told : told_of s itself node ask ≡ Some (site.node, said)
  pub carried : Contains (ask_unread s itself ask) (unread_seen site.unread)
  pub holds : IsTrue (ask_conforms s (as_read texts upper) (around_of outermost place resource) itself ask)
  pub fails : ask_conforms s (as_read texts lower) (around_of outermost place resource) itself ask ≡ false
  pub rule_holds : IsTrue (meaning_of texts upper (unread_seen site.unread))
  pub rule_fails : meaning_of texts lower (unread_seen site.unread) ≡ false
  pub named : IsNamed s site.node site.url.now site.id.now

-- where a user vouches for rules by these texts: one that isn't given, and on which something hangs that fails as given
abbrev pub IsSite : SchemaValue → List Text → Text → Tree → Site → Type 0
IsSite s texts profile t site =
    (n : NodeRef) × (x : Item) × (root s profile ≡ Some n) × Types s t x × IsHangingAt s texts as_given lenient x n site

-- a given one, on which something rests that holds as given, and that fails where no unread rule holds
abbrev pub IsRelied : SchemaValue → List Text → Text → Tree → Site → Type 0
IsRelied s texts profile t site =
    (n : NodeRef) × (x : Item) × (root s profile ≡ Some n) × Types s t x × IsHangingAt s texts strict as_given x n site
