-- How many profiles there are of each verdict.
use Rattle.std.specs.Prelude.{ℕ, List, length, Bool, true, false}
use Rattle.std.specs.List.{count_by}
use Rattle.fhir_audit.specs.declared.verdict.Audited.{Audited}
use Rattle.fhir_audit.specs.Verdicts.{VerdictValue, narrows, does_not_narrow, is_not_shown, cannot_be_used, has_no_base, is_narrowing}
use Rattle.fhir_audit.specs.Views.{verdict_seen}
use Rattle.fhir_audit_words.specs.declared.counting.Counts.{Counts}

abbrev pub is_refuted : VerdictValue → Bool
is_refuted (narrows c) = false
is_refuted (does_not_narrow pair rule resource) = true
is_refuted (is_not_shown pair rule) = false
is_refuted (cannot_be_used side) = false
is_refuted has_no_base = false

abbrev pub is_undecided : VerdictValue → Bool
is_undecided (narrows c) = false
is_undecided (does_not_narrow pair rule resource) = false
is_undecided (is_not_shown pair rule) = true
is_undecided (cannot_be_used side) = false
is_undecided has_no_base = false

abbrev pub is_unusable : VerdictValue → Bool
is_unusable (narrows c) = false
is_unusable (does_not_narrow pair rule resource) = false
is_unusable (is_not_shown pair rule) = false
is_unusable (cannot_be_used side) = true
is_unusable has_no_base = false

abbrev pub is_without_base : VerdictValue → Bool
is_without_base (narrows c) = false
is_without_base (does_not_narrow pair rule resource) = false
is_without_base (is_not_shown pair rule) = false
is_without_base (cannot_be_used side) = false
is_without_base has_no_base = true

-- how many there are whose verdict passes a test
abbrev pub with_verdict : (VerdictValue → Bool) → List Audited → ℕ
with_verdict test told = count_by (λ a. test (verdict_seen a.verdict)) told

abbrev pub counts_of : List Audited → Counts
counts_of told = record {
  profiles = length told;
  narrow = with_verdict is_narrowing told;
  do_not = with_verdict is_refuted told;
  not_shown = with_verdict is_undecided told;
  unusable = with_verdict is_unusable told;
  without_base = with_verdict is_without_base told;
}
