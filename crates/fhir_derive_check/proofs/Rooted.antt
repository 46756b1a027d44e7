-- The root of a definition that can be used is a node.
use Rattle.std.proofs.Common.{◌≡◌, ◌<◌, ℕ, Bool, true, false, List, [], ◌∷◌, length, Option, Some, None, refl, ap, subst, cond, IsTrue, nat_lt}
use Rattle.std.specs.List.{position}
use Rattle.std.specs.Option.{option_map, option_and_then}
use Rattle.std.proofs.lemmas.Bool.{and_from, lt-ltb}
use Rattle.std.proofs.lemmas.Option.{none-some, same_Some}
use Rattle.std.proofs.lemmas.List.Quantifiers.{position-Some}
use Rattle.fhir_json.specs.Tree.{Text}
use Rattle.fhir_definition.specs.Snapshot.{is_root}
use Rattle.fhir_nodes.specs.declared.node.NodeRef.{NodeRef}
use Rattle.fhir_nodes.specs.Urls.{url_place}
use Rattle.fhir_certificate.specs.declared.pair.NodePair.{NodePair}
use Rattle.fhir_schema.specs.Schemas.{SchemaValue, has, is_usable, elements_at, root_element, root_in, root}

position_within : {A : Type 0} (p : A → Bool) (xs : List A) (i : ℕ) → position p xs ≡ Some i → i < length xs
position_within p [] i e = absurd (none-some i e)
position_within p (x ∷ xs) i e = (position-Some p (x ∷ xs) i x e).0

pub root-known : (s : SchemaValue) (url : Text) (n : NodeRef) → root s url ≡ Some n → IsTrue (has s n)
root-known s url n e = at (url_place s.definitions url) e
  where
    within : (place : ℕ) (b : Bool) → is_usable s place ≡ b → (o : Option ℕ) → root_element s place ≡ o
        → cond b (option_map (λ e. record { definition = place; element = e }) o) None ≡ Some n → IsTrue (has s n)
    within place false usable o found e = absurd (none-some n e)
    within place true usable None found e = absurd (none-some n e)
    within place true usable (Some k) found e =
        let m : NodeRef = record { definition = place; element = k } in
        let below : k < length (elements_at s place) = position_within is_root (elements_at s place) k found in
        subst (λ m. IsTrue (has s m)) (same_Some m n e)
        (and_from (is_usable s place) (nat_lt k (length (elements_at s place))) usable (lt-ltb k (length (elements_at s place)) below))

    at : (o : Option ℕ) → option_and_then (root_in s) o ≡ Some n → IsTrue (has s n)
    at None e = absurd (none-some n e)
    at (Some place) e = within place (is_usable s place) refl (root_element s place) refl e

-- both roots, where the two are there
pub both-roots : (o o' : Option NodeRef) (roots : NodePair) → option_and_then (λ n. option_map (λ m. record { derived = n; base = m }) o') o ≡ Some roots → (o ≡ Some roots.derived) × (o' ≡ Some roots.base)
both-roots None o' roots e = absurd (none-some roots e)
both-roots (Some n) None roots e = absurd (none-some roots e)
both-roots (Some n) (Some m) roots e =
    let made : NodePair = record { derived = n; base = m } in
    let same : made ≡ roots = same_Some made roots e in
    (ap (λ r. Some r.derived) same, ap (λ r. Some r.base) same)
