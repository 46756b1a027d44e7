-- The children of a name, one after the other.
use Rattle.std.proofs.Common.{◌≡◌, ℕ, suc, ◌+◌, ◌<◌, Bool, true, false, List, ◌∷◌, map, length, get_or, refl, sym, ap, ◌∙◌, ◌&&◌, Some, cond, subst}
use Rattle.std.specs.Str.{bytes_eq}
use Rattle.std.specs.Option.{option_map_or}
use Rattle.fhir_json.specs.Tree.{Text}
use Rattle.fhir_nodes.specs.declared.node.NodeRef.{NodeRef}
use Rattle.fhir_schema.specs.Schemas.{SchemaValue}
use Rattle.fhir_instance.specs.Items.{Item, kids_in, kids_of}
use Rattle.fhir_instance.specs.View.{named_of, named_in}
use Rattle.fhir_instance.specs.declared.typed.Kid.{Kid}
use Rattle.fhir_conformance.specs.Asks.{child, child_ask, places_from}
use Rattle.fhir_conformance.specs.Positions.{kid_at}
use Rattle.fhir_conformance.specs.Conformance.{Around, constant, inside, below, conforms}
use Rattle.fhir_conformance.proofs.ByAsks.{test_at}
use Rattle.fhir_conformance.proofs.KidAt.{is_there}
use Rattle.fhir_walk.specs.Walks.{passes, pass_all, Tells, IsAroundKids}

-- where the child at a position stands
abbrev pub kid_place : SchemaValue → Around → Item → ℕ → Around
kid_place s here x i = below (inside s here x) (0 + i)

module _ (s : SchemaValue) (here : Around) (x : Item) (n : NodeRef) (name : Text) where
  -- whether those of the name conform to the node, of children whose positions begin at a number
  abbrev pub named_from : ℕ → List Kid → Bool
  named_from start ks = pass_all s here x (map (child_ask n) (places_from start name (kids_in (named_in ks))))

  -- what is asked of the first of them, if it has the name
  abbrev pub first_asked : ℕ → Kid → Bool
  first_asked start k = cond (bytes_eq name (named_of k).0) (passes s here x (child start n)) true

  pub named_first : (start : ℕ) (k : Kid) (ks : List Kid) → named_from start (k ∷ ks) ≡ (first_asked start k && named_from (suc start) ks)
  named_first start k ks = by_case (bytes_eq name (named_of k).0)
    where
      by_case : (b : Bool)
          → pass_all s here x (map (child_ask n) (cond b (start ∷ places_from (suc start) name (kids_in (named_in ks))) (places_from (suc start) name (kids_in (named_in ks)))))
          ≡ (cond b (passes s here x (child start n)) true && named_from (suc start) ks)
      by_case true = refl
      by_case false = refl

  -- a child is asked what its parent's ask for it says
  pub asked_there : (i : ℕ) (y : Item) → kid_at (kids_of x) i ≡ Some y → passes s here x (child i n) ≡ conforms s (constant false) (kid_place s here x i) y n
  asked_there i y is =
      test_at s (constant false) (inside s here x) 0 (kids_of x) i n
      ∙ ap (λ o. option_map_or (λ y. conforms s (constant false) (kid_place s here x i) y n) o true) is

  pub told_there : (i : ℕ) (k : Kid) (ks : List Kid) (around : Item) (told : Bool) → kids_in (named_in ks) ≡ kids_of x → i < length ks → k ≡ get_or ks i k
      → IsAroundKids s x around here
      → Tells around (λ here. cond (bytes_eq name (named_of k).0) (conforms s (constant false) here (named_of k).1 n) true) told
      → told ≡ first_asked i k
  told_there i k ks around told same below is stands tells =
      let there : kid_at (kids_of x) i ≡ Some (named_of k).1 = subst (λ kids. kid_at kids i ≡ Some (named_of k).1) same (is_there ks i k below is) in
      tells (kid_place s here x i) (stands i (named_of k).1 there)
      ∙ ap (λ b. cond (bytes_eq name (named_of k).0) b true) (sym (asked_there i (named_of k).1 there))
