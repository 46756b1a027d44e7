-- When two collections are equal, pair by pair.
use Rattle.std.proofs.Common.{◌≡◌, suc, Bool, true, false, List, [], ◌∷◌, length, None, Some, Ok, refl, ap, ◌∙◌, inl, inr}
use Rattle.std.proofs.lemmas.Bool.{and_parts, and_from, or_cases, false≢true}
use Rattle.fhir_fp_values.specs.Values.{Plain}
use Rattle.fhir_fp_values.specs.Equality.{Kleene, kleene_and, kleene_not, is_yes, alike, pairs}
use Rattle.fhir_fp_eval.specs.Meaning.{◌>>=◌, Found, answer, truth_of}
use Rattle.fhir_fp_eval.specs.Example.{is}
use Rattle.fhirpath_laws.specs.Equality.{is_no, are_alike, are_told_apart}

-- ---- three truths

both_yes : (p q : Kleene) → kleene_and p q ≡ Some true → (p ≡ Some true) × (q ≡ Some true)
both_yes (Some true) q h = (refl, h)
both_yes (Some false) q h = absurd cc
both_yes None (Some false) h = absurd cc
both_yes None (Some true) h = absurd cc
both_yes None None h = absurd cc

then_no : (p : Kleene) → kleene_and p (Some false) ≡ Some false
then_no (Some true) = refl
then_no (Some false) = refl
then_no None = refl

yes_is : (p : Kleene) → is_yes p ≡ true → p ≡ Some true
yes_is (Some b) h = ap (λ (d : Bool). Some d) h
yes_is None h = absurd (false≢true h)

no_is : (p : Kleene) → is_no p ≡ true → p ≡ Some false
no_is (Some true) h = absurd (false≢true h)
no_is (Some false) h = refl
no_is None h = absurd (false≢true h)

-- ---- pairs

pub pairs_alike : (vs us : List Plain) → pairs vs us ≡ Some true → (length vs ≡ length us) × (are_alike vs us ≡ true)
unfolding pairs
pairs_alike [] [] h = (refl, refl)
pairs_alike [] (u ∷ us) h = absurd cc
pairs_alike (v ∷ vs) [] h = absurd cc
pairs_alike (v ∷ vs) (u ∷ us) h =
    let both = both_yes (alike v u) (pairs vs us) h in
    let rest = pairs_alike vs us both.1 in
    (ap suc rest.0, and_from (is_yes (alike v u)) (are_alike vs us) (ap is_yes both.0) rest.1)

pub alike_pairs : (vs us : List Plain) → length vs ≡ length us → are_alike vs us ≡ true → pairs vs us ≡ Some true
unfolding pairs
alike_pairs [] [] e h = refl
alike_pairs [] (u ∷ us) e h = absurd cc
alike_pairs (v ∷ vs) [] e h = absurd cc
alike_pairs (v ∷ vs) (u ∷ us) e h =
    let both = and_parts (is_yes (alike v u)) (are_alike vs us) h in
    let rest : length vs ≡ length us = cc in
    ap (λ (p : Kleene). kleene_and p (pairs vs us)) (yes_is (alike v u) both.0) ∙ alike_pairs vs us rest both.1

pub other_numbers : (vs us : List Plain) → (length vs ≡ length us → ⊥) → pairs vs us ≡ Some false
unfolding pairs
other_numbers [] [] n = absurd (n refl)
other_numbers [] (u ∷ us) n = refl
other_numbers (v ∷ vs) [] n = refl
other_numbers (v ∷ vs) (u ∷ us) n = ap (kleene_and (alike v u)) (other_numbers vs us (λ e. n (ap suc e))) ∙ then_no (alike v u)

pub told_apart : (vs us : List Plain) → are_told_apart vs us ≡ true → pairs vs us ≡ Some false
unfolding pairs
told_apart [] us h = absurd (false≢true h)
told_apart (v ∷ vs) [] h = absurd (false≢true h)
told_apart (v ∷ vs) (u ∷ us) h =
    elim (or_cases (is_no (alike v u)) (are_told_apart vs us) h) [
      | inl here ↦ ap (λ (p : Kleene). kleene_and p (pairs vs us)) (no_is (alike v u) here)
      | inr later ↦ ap (kleene_and (alike v u)) (told_apart vs us later) ∙ then_no (alike v u)
    ]

-- ---- answers

pub told_true : (p : Kleene) → ◌≡◌ {A = Found} (Ok (answer p)) (is true) → p ≡ Some true
told_true (Some true) h = refl
told_true (Some false) h = absurd cc
told_true None h = absurd cc

pub not_answered : (p : Kleene) → ◌≡◌ {A = Found} (Ok (answer (kleene_not p))) (truth_of (answer p) >>= λ q. Ok (answer (kleene_not q)))
not_answered (Some b) = refl
not_answered None = refl
