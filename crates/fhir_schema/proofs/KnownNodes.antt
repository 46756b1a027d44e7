-- Nodes that are found by name are known.
use Rattle.std.proofs.Common.{◌≡◌, ◌<◌, ◌+◌, ℕ, suc, Bool, true, false, List, [], ◌∷◌, length, Option, Some, None, refl, subst, cond, arith, IsTrue, nat_lt}
use Rattle.std.specs.Option.{option_map, option_and_then}
use Rattle.std.specs.Str.{bytes_eq}
use Rattle.std.proofs.lemmas.Bool.{and_from, lt-ltb}
use Rattle.std.proofs.lemmas.Option.{none-some, same_Some}
use Rattle.fhir_json.specs.Tree.{Text}
use Rattle.fhir_elements.specs.Element.{Element}
use Rattle.fhir_nodes.specs.declared.node.NodeRef.{NodeRef}
use Rattle.fhir_definition.specs.Snapshot.{id_place_from, id_place}
use Rattle.fhir_nodes.specs.Urls.{url_place}
use Rattle.fhir_schema.specs.Schemas.{SchemaValue, is_usable, elements_at, has, node_with, node}

-- a place that is found is among the elements
found_within : (n : ℕ) (es : List Element) (id : Text) (k : ℕ) → id_place_from n es id ≡ Some k → k < n + length es
found_within n [] id k e = absurd (none-some k e)
found_within n (x ∷ es) id k e = go (bytes_eq id x.id) e (λ h. found_within (suc n) es id k h)
  where
    go : (b : Bool) → cond b (Some n) (id_place_from (suc n) es id) ≡ Some k → (id_place_from (suc n) es id ≡ Some k → k < suc n + length es)
        → k < n + length (x ∷ es)
    go true e behind = omega (arith, same_Some n k e)
    go false e behind = omega (arith, behind e)

module _ (s : SchemaValue) (id : Text) (n : NodeRef) where
  known_in : (place : ℕ) → node_with s id place ≡ Some n → IsTrue (has s n)
  known_in place = go (is_usable s place) refl (id_place (elements_at s place) id) refl
    where
      go : (b : Bool) → is_usable s place ≡ b → (o : Option ℕ) → id_place (elements_at s place) id ≡ o
          → cond b (option_map (λ e. record { definition = place; element = e }) o) None ≡ Some n → IsTrue (has s n)
      go false usable o found e = absurd (none-some n e)
      go true usable None found e = absurd (none-some n e)
      go true usable (Some k) found e =
          subst (λ m. IsTrue (has s m)) (same_Some _ _ e)
          (and_from (is_usable s place) (nat_lt k (length (elements_at s place))) usable
          (lt-ltb k (length (elements_at s place)) (omega (arith, found_within 0 (elements_at s place) id k found))))

  known_at : (o : Option ℕ) → option_and_then (node_with s id) o ≡ Some n → IsTrue (has s n)
  known_at None e = absurd (none-some n e)
  known_at (Some place) e = known_in place e

pub known : (s : SchemaValue) (url id : Text) (n : NodeRef) → node s url id ≡ Some n → IsTrue (has s n)
known s url id n e = known_at s id n (url_place s.definitions url) e
