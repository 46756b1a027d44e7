-- How many profiles there are of each verdict.
use Rattle.std.specs.Prelude.{ℕ, List, ◌++◌, length, Bool, true, false, codes}
use Rattle.std.specs.List.{count_by}
use Rattle.fhir_json.specs.Tree.{Text}
use Rattle.fhir_lines.specs.Lines.{counted}
use Rattle.fhir_compare.specs.declared.verdict.Change.{Change}
use Rattle.fhir_compare.specs.declared.verdict.Change.TheVariants.{Same, Narrows, Widens, Neither}
use Rattle.fhir_compare.specs.declared.verdict.Compared.{Compared}
use Rattle.fhir_compare.specs.Comparing.{VerdictValue, both, unusable_in, only_in_old, only_in_new, change_of}
use Rattle.fhir_compare.specs.Views.{verdict_seen}
use Rattle.fhir_compare_lines.specs.declared.counting.Counts.{Counts}

abbrev pub same_change : Change → Change → Bool
same_change Same Same = true
same_change Narrows Narrows = true
same_change Widens Widens = true
same_change Neither Neither = true
same_change one other = false

-- both can be used, and this is how they stand to one another
abbrev pub is_changed_so : Change → VerdictValue → Bool
is_changed_so change (both ways) = same_change change (change_of ways)
is_changed_so change (unusable_in in_old in_new) = false
is_changed_so change only_in_old = false
is_changed_so change only_in_new = false

abbrev pub is_unusable : VerdictValue → Bool
is_unusable (both ways) = false
is_unusable (unusable_in in_old in_new) = true
is_unusable only_in_old = false
is_unusable only_in_new = false

abbrev pub is_in_old_alone : VerdictValue → Bool
is_in_old_alone (both ways) = false
is_in_old_alone (unusable_in in_old in_new) = false
is_in_old_alone only_in_old = true
is_in_old_alone only_in_new = false

abbrev pub is_in_new_alone : VerdictValue → Bool
is_in_new_alone (both ways) = false
is_in_new_alone (unusable_in in_old in_new) = false
is_in_new_alone only_in_old = false
is_in_new_alone only_in_new = true

-- how many there are whose verdict passes a test
abbrev pub with_verdict : (VerdictValue → Bool) → List Compared → ℕ
with_verdict test told = count_by (λ c. test (verdict_seen c.verdict)) told

abbrev pub counts_of : List Compared → Counts
counts_of told = record {
  profiles = length told;
  same = with_verdict (is_changed_so Same) told;
  narrow = with_verdict (is_changed_so Narrows) told;
  widen = with_verdict (is_changed_so Widens) told;
  neither = with_verdict (is_changed_so Neither) told;
  unusable = with_verdict is_unusable told;
  only_in_old = with_verdict is_in_old_alone told;
  only_in_new = with_verdict is_in_new_alone told;
}

abbrev pub counts_text : Counts → Text
counts_text c =
    counted (codes "profiles: ") c.profiles ++ counted (codes ", same: ") c.same ++ counted (codes ", narrow: ") c.narrow
    ++ counted (codes ", widen: ") c.widen ++ counted (codes ", neither: ") c.neither ++ counted (codes ", can't be used: ") c.unusable
    ++ counted (codes ", only in OLD: ") c.only_in_old ++ counted (codes ", only in NEW: ") c.only_in_new
