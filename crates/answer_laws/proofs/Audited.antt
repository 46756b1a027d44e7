-- Each profile of an audit is counted once.
use Rattle.std.proofs.Common.{◌≡◌, ℕ, suc, ◌+◌, ◌≤◌, Bool, true, false, ◌&&◌, cond, eqb, List, [], ◌∷◌, length, refl, sym, ap, ◌∙◌, arith}
use Rattle.std.proofs.lemmas.Bool.{eq-eqb, ne_eqb, eqb-true, eqb-false}
use Rattle.std.proofs.lemmas.List.Sums.{sum_by-cons, count_by-le-length}
use Rattle.fhir_audit.specs.Auditing.{are_narrowing}
use Rattle.fhir_audit.specs.Verdicts.{VerdictValue, narrows, does_not_narrow, is_not_shown, cannot_be_used, has_no_base, is_narrowing}
use Rattle.fhir_audit.specs.Views.{verdict_seen, all_audited}
use Rattle.fhir_audit.specs.declared.verdict.Audited.{Audited}
use Rattle.fhir_audit_words.specs.Counting.{with_verdict, is_refuted, is_undecided, is_unusable, is_without_base}

one_of_five : (v : VerdictValue)
    → cond (is_narrowing v) 1 0 + cond (is_refuted v) 1 0 + cond (is_undecided v) 1 0 + cond (is_unusable v) 1 0 + cond (is_without_base v) 1 0 ≡ 1
one_of_five (narrows c) = refl
one_of_five (does_not_narrow pair rule resource) = refl
one_of_five (is_not_shown pair rule) = refl
one_of_five (cannot_be_used side) = refl
one_of_five has_no_base = refl

-- one more that passes a test, or doesn't
abbrev one : (VerdictValue → Bool) → Audited → ℕ
one test a = cond (test (verdict_seen a.verdict)) 1 0

-- one more of each of five counts
five_more : (a b c d e u v w x y n a' b' c' d' e' : ℕ) → a' ≡ u + a → b' ≡ v + b → c' ≡ w + c → d' ≡ x + d → e' ≡ y + e
    → a + b + c + d + e ≡ n → u + v + w + x + y ≡ 1 → a' + b' + c' + d' + e' ≡ suc n
five_more a b c d e u v w x y n a' b' c' d' e' p q r s t all one = omega (arith, p, q, r, s, t, all, one)

more_with : (test : VerdictValue → Bool) (a : Audited) (told : List Audited) → with_verdict test (a ∷ told) ≡ one test a + with_verdict test told
more_with test a told = sum_by-cons (one test) a told

pub all_counted : (told : List Audited)
    → with_verdict is_narrowing told + with_verdict is_refuted told + with_verdict is_undecided told + with_verdict is_unusable told + with_verdict is_without_base told
    ≡ length told
all_counted [] = refl
all_counted (a ∷ told) =
    five_more (with_verdict is_narrowing told) (with_verdict is_refuted told) (with_verdict is_undecided told) (with_verdict is_unusable told)
    (with_verdict is_without_base told) (one is_narrowing a) (one is_refuted a) (one is_undecided a) (one is_unusable a) (one is_without_base a) (length told)
    (with_verdict is_narrowing (a ∷ told)) (with_verdict is_refuted (a ∷ told)) (with_verdict is_undecided (a ∷ told)) (with_verdict is_unusable (a ∷ told))
    (with_verdict is_without_base (a ∷ told)) (more_with is_narrowing a told) (more_with is_refuted a told) (more_with is_undecided a told)
    (more_with is_unusable a told) (more_with is_without_base a told) (all_counted told) (one_of_five (verdict_seen a.verdict))

-- ---- all narrow exactly where as many do as there are

abbrev narrow : List Audited → ℕ
narrow told = with_verdict is_narrowing told

more_narrow : (a : Audited) (told : List Audited) (b : Bool) → is_narrowing (verdict_seen a.verdict) ≡ b → narrow (a ∷ told) ≡ cond b 1 0 + narrow told
more_narrow a told b e = more_with is_narrowing a told ∙ ap (λ b. cond b 1 0 + narrow told) e

under : (told : List Audited) → narrow told ≤ length told
under told = count_by-le-length (λ a. is_narrowing (verdict_seen a.verdict)) told

same_step : (m n m' : ℕ) → m' ≡ 1 + m → eqb m n ≡ eqb m' (suc n)
same_step m n m' p = by (eqb m n) refl
  where
    by : (b : Bool) → eqb m n ≡ b → b ≡ eqb m' (suc n)
    by true e = sym (eq-eqb m' (suc n) (omega (arith, p, eqb-true m n e)))
    by false e = sym (ne_eqb m' (suc n) (λ same. eqb-false m n e (omega (arith, p, same))))

fewer : (m n m' : ℕ) → m' ≡ 0 + m → m ≤ n → m' ≡ suc n → ⊥
fewer m n m' p least same = absurd (omega (arith, p, least, same))

narrowing_step : (a : Audited) (told : List Audited) (b : Bool) → is_narrowing (verdict_seen a.verdict) ≡ b
    → are_narrowing (all_audited told) ≡ eqb (narrow told) (length told)
    → (b && are_narrowing (all_audited told)) ≡ eqb (narrow (a ∷ told)) (suc (length told))
narrowing_step a told true e same = same ∙ same_step (narrow told) (length told) (narrow (a ∷ told)) (more_narrow a told true e)
narrowing_step a told false e same =
    sym (ne_eqb (narrow (a ∷ told)) (suc (length told)) (fewer (narrow told) (length told) (narrow (a ∷ told)) (more_narrow a told false e) (under told)))

pub narrowing_counted : (told : List Audited) → are_narrowing (all_audited told) ≡ eqb (narrow told) (length told)
narrowing_counted [] = refl
narrowing_counted (a ∷ told) = narrowing_step a told (is_narrowing (verdict_seen a.verdict)) refl (narrowing_counted told)
