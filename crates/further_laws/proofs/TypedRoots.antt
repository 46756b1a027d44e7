-- Which node types a part of a resource that conforms to a profile, and what stands in it.
use Rattle.std.proofs.Common.{◌≡◌, ℕ, Bool, true, false, cond, List, ◌++◌, ◌&&◌, None, Some, IsTrue, refl, sym, ap, ◌∙◌, subst}
use Rattle.std.specs.List.{slice_get, list_all}
use Rattle.std.proofs.lemmas.Bool.{and_parts, false≢true}
use Rattle.std.proofs.lemmas.Option.{none-some}
use Rattle.fhir_json.specs.Tree.{Text}
use Rattle.fhir_definition.specs.Definition.{Definition}
use Rattle.fhir_nodes.specs.declared.node.NodeRef.{NodeRef}
use Rattle.fhir_schema.specs.Schemas.{SchemaValue, has, is_root_node, type_root, root_in}
use Rattle.fhir_schema.specs.Covers.{covers, type_at}
use Rattle.fhir_schema.proofs.Roots.{found}
use Rattle.fhir_instance.specs.Items.{Item, item, type_of}
use Rattle.fhir_conformance.specs.Asks.{Ask, facet_asks, constraint_asks, kids_asks}
use Rattle.fhir_conformance.specs.Conformance.{Interpretation, Around, meaning_at, resource_at, inside, kid_tests, ask_holds, root_holds, inner_holds, conforms}
use Rattle.fhir_contradictions.specs.Typing.{IsTypedBy, IsTypedIfKnown}
use Rattle.fhir_contradictions.specs.Parts.{IsPartOf, child}
use Rattle.fhir_contradictions.specs.Regular.{are_regular, may_have_items, typed_at_root}
use Rattle.further_laws.specs.Standing.{StandsAt, itself, below, in_slice}
use Rattle.further_laws.proofs.RegularTypes.{covers_itself}

-- an item that conforms to a root is of a type that the root's covers
root_covers : (s : SchemaValue) (meaning : Interpretation) (around : Around) (x : Item) (root : NodeRef) → IsTrue (is_root_node s root)
    → IsTrue (conforms s meaning around x root) → IsTrue (covers s (type_at s root) (type_of x))
root_covers s meaning around (item type json kids) root is_root holds =
    (and_parts (covers s (type_at s root) type) (list_all of (facet_asks root ++ (constraint_asks s root ++ kids_asks s x root)))
    (by (is_root_node s root) is_root holds)).0
  where
    x : Item
    x = item type json kids

    tests : List (NodeRef → Bool)
    tests = kid_tests s meaning (inside s around x) 0 kids

    of : Ask → Bool
    of = ask_holds s (meaning_at meaning around) (resource_at s around x) x tests (λ r. true)

    by : (b : Bool) → b ≡ true
        → IsTrue (cond b (root_holds s (meaning_at meaning around) (resource_at s around x) x tests root) (inner_holds s (meaning_at meaning around) (resource_at s around x) x tests root))
        → IsTrue (root_holds s (meaning_at meaning around) (resource_at s around x) x tests root)
    by true is h = h
    by false is h = absurd (false≢true is)

-- a part that conforms to a root is typed by the root of its type, where the profile's root tells it
pub root_typed : (s : SchemaValue) → ((place : ℕ) (d : Definition) → slice_get s.definitions place ≡ Some d → d.place ≡ place)
    → (meaning : Interpretation) (around : Around) (y : Item) (place : ℕ) (root : NodeRef)
    → (IsTrue (are_regular s) → IsTrue (may_have_items s (type_of y)) → IsTypedIfKnown s (type_root s (type_of y)) y)
    → root_in s place ≡ Some root → IsTrue (conforms s meaning around y root) → IsTypedIfKnown s (typed_at_root s root) y
root_typed s placed meaning around y place root regular is holds b = by (are_regular s && may_have_items s (type_at s root)) refl
  where
    covering : IsTrue (covers s (type_at s root) (type_of y))
    covering = root_covers s meaning around y root (found s root (Some place) is) holds

    by : (c : Bool) → (are_regular s && may_have_items s (type_at s root)) ≡ c → cond c (type_root s (type_at s root)) None ≡ Some b
        → IsTrue (has s b) × IsTypedBy s b y
    by false known at = absurd (none-some b at)
    by true known at =
        let parts = and_parts (are_regular s) (may_have_items s (type_at s root)) known in
        let same : type_of y ≡ type_at s root = covers_itself s placed parts.0 (type_at s root) (type_of y) parts.1 covering in
        regular parts.0 (subst (λ (w : Text). IsTrue (may_have_items s w)) (sym same) parts.1) b (ap (type_root s) same ∙ at)

-- what stands at a node is a part
pub standing_part : (s : SchemaValue) (root : NodeRef) (x y : Item) → IsPartOf x y → (n : NodeRef) (z : Item) → StandsAt s root y n z → IsPartOf x z
standing_part s root x y part n z (itself e f) = subst (IsPartOf x) (sym f) part
standing_part s root x y part n z (below {m = m} {z = w} slot st b e) = child slot.name (standing_part s root x y part m w st) b.child
standing_part s root x y part n z (in_slice {m = m} {z = w} slot slice st b among e belonging) = child slot.name (standing_part s root x y part m w st) b.child
