-- Pairs, one turn at a time.
use Rattle.std.proofs.Common.{◌≡◌, ℕ, ◌<◌, ◌≤◌, true, false, Some, None, List, [], ◌∷◌, length, drop, refl, sym, ap, ◌∙◌, arith}
use Rattle.std.proofs.lemmas.List.{drop_all}
use Rattle.fhir_fp_values.specs.declared.equality.KidRef.{KidRef}
use Rattle.fhir_fp_values.specs.declared.value.Value.{Value}
use Rattle.fhir_fp_values.specs.Views.{plains_of}
use Rattle.fhir_fp_values.specs.Equality.{Kleene, kleene_and, pairs}
use Rattle.fhir_fp_values.specs.Pairing.{kids_seen, pairwise}

and_false : (p : Kleene) → kleene_and p (Some false) ≡ Some false
and_false None = refl
and_false (Some true) = refl
and_false (Some false) = refl

-- something is left on the right
pub kids_left : (all : Kleene) (xs ys : List KidRef) (i : ℕ) (whole : Kleene) → length xs ≤ i → 0 < length ys
    → kleene_and all (pairwise (kids_seen (drop i xs)) (kids_seen ys)) ≡ whole → Some false ≡ whole
kids_left all xs [] i whole done some is = absurd (omega arith)
kids_left all xs (y ∷ ys) i whole done some is =
    sym (and_false all) ∙ sym (ap (λ (zs : List KidRef). kleene_and all (pairwise (kids_seen zs) (kids_seen (y ∷ ys)))) (drop_all i xs done)) ∙ is

pub pairs_left : (all : Kleene) (xs ys : List Value) (i : ℕ) (whole : Kleene) → length xs ≤ i → 0 < length ys
    → kleene_and all (pairs (plains_of (drop i xs)) (plains_of ys)) ≡ whole → Some false ≡ whole
unfolding pairs
pairs_left all xs [] i whole done some is = absurd (omega arith)
pairs_left all xs (y ∷ ys) i whole done some is =
    sym (and_false all) ∙ sym (ap (λ (zs : List Value). kleene_and all (pairs (plains_of zs) (plains_of (y ∷ ys)))) (drop_all i xs done)) ∙ is
