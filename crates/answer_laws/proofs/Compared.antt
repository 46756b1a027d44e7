-- What a comparison counts and says.
use Rattle.std.proofs.Common.{◌≡◌, ℕ, suc, ◌+◌, ◌++◌, Bool, true, false, not, ◌&&◌, ◌||◌, cond, eqb, List, [], ◌∷◌, length, Option, None, Some, is_none, slice_get, refl, ap, ◌∙◌, arith, IsTrue}
use Rattle.std.proofs.lemmas.Bool.{false≢true}
use Rattle.std.proofs.lemmas.List.Sums.{sum_by-cons}
use Rattle.fhir_json.specs.Tree.{Text, Tree}
use Rattle.fhir_package.specs.Definitions.{Definitions}
use Rattle.fhir_schema.specs.Schemas.{schema_of}
use Rattle.fhir_cert_check.specs.Inclusion.{Includes}
use Rattle.fhir_words.specs.declared.request.Audience.{Audience}
use Rattle.fhir_words.specs.declared.request.Audience.TheVariants.{Readers, Writers}
use Rattle.fhir_alike.specs.Profiles.{is_profile}
use Rattle.fhir_compare.specs.declared.verdict.Change.{Change}
use Rattle.fhir_compare.specs.declared.verdict.Change.TheVariants.{Same, Narrows, Widens, Neither}
use Rattle.fhir_compare.specs.declared.verdict.Compared.{Compared}
use Rattle.fhir_compare.specs.Comparing.{Said, Direction, new_in_old, old_in_new, sides_by, WaysValue, way_of, holds, change_by, change_of, VerdictValue, both, unusable_in, only_in_old, only_in_new, IsVerdict}
use Rattle.fhir_compare.specs.Views.{verdict_seen}
use Rattle.fhir_compare_lines.specs.Counting.{with_verdict, is_changed_so, is_unusable, is_in_old_alone, is_in_new_alone, same_change}
use Rattle.fhir_compare_lines.specs.declared.parts.Part.{Part}
use Rattle.fhir_compare_lines.specs.declared.parts.Part.TheVariants.{None as NoPart, Minor, Major}
use Rattle.fhir_compare_lines.specs.Parts.{change_part, verdict_part, worse, worst_behind, part_of}
use Rattle.fhir_compare_engine.specs.Answering.{part_status}
use Rattle.answer_laws.specs.Parts.{is_major, is_minor, one_asks, part_said}

-- ---- counts

one_change : (c : Change)
    → cond (same_change Same c) 1 0 + cond (same_change Narrows c) 1 0 + cond (same_change Widens c) 1 0 + cond (same_change Neither c) 1 0 ≡ 1
one_change Same = refl
one_change Narrows = refl
one_change Widens = refl
one_change Neither = refl

with_zeros : (n : ℕ) → n ≡ 1 → n + 0 + 0 + 0 ≡ 1
with_zeros n is = omega (arith, is)

one_of_seven : (v : VerdictValue)
    → cond (is_changed_so Same v) 1 0 + cond (is_changed_so Narrows v) 1 0 + cond (is_changed_so Widens v) 1 0 + cond (is_changed_so Neither v) 1 0
    + cond (is_unusable v) 1 0 + cond (is_in_old_alone v) 1 0 + cond (is_in_new_alone v) 1 0 ≡ 1
one_of_seven (both w) = with_zeros _ (one_change (change_of w))
one_of_seven (unusable_in in_old in_new) = refl
one_of_seven only_in_old = refl
one_of_seven only_in_new = refl

abbrev one : (VerdictValue → Bool) → Compared → ℕ
one test c = cond (test (verdict_seen c.verdict)) 1 0

-- one more of each of seven counts
seven_more : (a b c d e f g u v w x y z o n a' b' c' d' e' f' g' : ℕ) → a' ≡ u + a → b' ≡ v + b → c' ≡ w + c → d' ≡ x + d → e' ≡ y + e → f' ≡ z + f
    → g' ≡ o + g → a + b + c + d + e + f + g ≡ n → u + v + w + x + y + z + o ≡ 1 → a' + b' + c' + d' + e' + f' + g' ≡ suc n
seven_more a b c d e f g u v w x y z o n a' b' c' d' e' f' g' p q r s t h k all one = omega (arith, p, q, r, s, t, h, k, all, one)

more_with : (test : VerdictValue → Bool) (c : Compared) (told : List Compared) → with_verdict test (c ∷ told) ≡ one test c + with_verdict test told
more_with test c told = sum_by-cons (one test) c told

pub all_counted : (told : List Compared)
    → with_verdict (is_changed_so Same) told + with_verdict (is_changed_so Narrows) told + with_verdict (is_changed_so Widens) told
    + with_verdict (is_changed_so Neither) told + with_verdict is_unusable told + with_verdict is_in_old_alone told + with_verdict is_in_new_alone told
    ≡ length told
all_counted [] = refl
all_counted (c ∷ told) =
    seven_more (with_verdict (is_changed_so Same) told) (with_verdict (is_changed_so Narrows) told) (with_verdict (is_changed_so Widens) told)
    (with_verdict (is_changed_so Neither) told) (with_verdict is_unusable told) (with_verdict is_in_old_alone told) (with_verdict is_in_new_alone told)
    (one (is_changed_so Same) c) (one (is_changed_so Narrows) c) (one (is_changed_so Widens) c) (one (is_changed_so Neither) c) (one is_unusable c)
    (one is_in_old_alone c) (one is_in_new_alone c) (length told) (with_verdict (is_changed_so Same) (c ∷ told))
    (with_verdict (is_changed_so Narrows) (c ∷ told)) (with_verdict (is_changed_so Widens) (c ∷ told)) (with_verdict (is_changed_so Neither) (c ∷ told))
    (with_verdict is_unusable (c ∷ told)) (with_verdict is_in_old_alone (c ∷ told)) (with_verdict is_in_new_alone (c ∷ told))
    (more_with (is_changed_so Same) c told) (more_with (is_changed_so Narrows) c told) (more_with (is_changed_so Widens) c told)
    (more_with (is_changed_so Neither) c told) (more_with is_unusable c told) (more_with is_in_old_alone c told) (more_with is_in_new_alone c told)
    (all_counted told) (one_of_seven (verdict_seen c.verdict))

-- ---- parts of a version

pub broken_readers : (n o : Bool) → is_major (change_part Readers (change_by n o)) ≡ not n
broken_readers true true = refl
broken_readers true false = refl
broken_readers false true = refl
broken_readers false false = refl

pub broken_writers : (n o : Bool) → is_major (change_part Writers (change_by n o)) ≡ not o
broken_writers true true = refl
broken_writers true false = refl
broken_writers false true = refl
broken_writers false false = refl

pub least_part : (audience : Audience) (n o : Bool)
    → (not (is_major (change_part audience (change_by n o))) && not (is_minor (change_part audience (change_by n o)))) ≡ (n && o)
least_part Readers true true = refl
least_part Readers true false = refl
least_part Readers false true = refl
least_part Readers false false = refl
least_part Writers true true = refl
least_part Writers true false = refl
least_part Writers false true = refl
least_part Writers false false = refl

-- the part by two tests
abbrev by_tests : Bool → Bool → Part
by_tests major minor = cond major Major (cond minor Minor NoPart)

one_part : (p q : Part) (major minor : Bool)
    → by_tests (is_major (worse p q) || major) (is_minor (worse p q) || minor) ≡ by_tests (is_major p || (is_major q || major)) (is_minor p || (is_minor q || minor))
one_part NoPart NoPart major minor = refl
one_part NoPart Minor major minor = refl
one_part NoPart Major major minor = refl
one_part Minor NoPart major minor = refl
one_part Minor Minor major minor = refl
one_part Minor Major major minor = refl
one_part Major q major minor = refl

part_alone : (p : Part) → p ≡ by_tests (is_major p || false) (is_minor p || false)
part_alone NoPart = refl
part_alone Minor = refl
part_alone Major = refl

part_since : (audience : Audience) (said : List Said) (p : Part)
    → worst_behind audience p said ≡ by_tests (is_major p || one_asks is_major audience said) (is_minor p || one_asks is_minor audience said)
part_since audience [] p = part_alone p
part_since audience (s ∷ said) p =
    part_since audience said (worse p (verdict_part audience s.1))
    ∙ one_part p (verdict_part audience s.1) (one_asks is_major audience said) (one_asks is_minor audience said)

pub whole_part : (audience : Audience) (said : List Said) → part_of audience said ≡ part_said audience said
whole_part audience said = part_since audience said NoPart

by_status : (major minor : Bool) → eqb (part_status (by_tests major minor)) 1 ≡ major
by_status true minor = refl
by_status false true = refl
by_status false false = refl

pub status_of_parts : (audience : Audience) (said : List Said) → eqb (part_status (part_of audience said)) 1 ≡ one_asks is_major audience said
status_of_parts audience said =
    ap (λ p. eqb (part_status p) 1) (whole_part audience said) ∙ by_status (one_asks is_major audience said) (one_asks is_minor audience said)

-- ---- what a change says

is_none_of : {A : Type 0} (o : Option A) → is_none o ≡ true → o ≡ None
is_none_of None e = refl
is_none_of (Some x) e = absurd (false≢true e)

abbrev is_narrowing : Change → Bool
is_narrowing Same = false
is_narrowing Narrows = true
is_narrowing Widens = false
is_narrowing Neither = false

abbrev is_widening : Change → Bool
is_widening Same = false
is_widening Narrows = false
is_widening Widens = true
is_widening Neither = false

abbrev is_same : Change → Bool
is_same Same = true
is_same Narrows = false
is_same Widens = false
is_same Neither = false

narrowing_by : (n o : Bool) → change_by n o ≡ Narrows → n ≡ true
narrowing_by true o e = refl
narrowing_by false true e = absurd (false≢true (ap is_narrowing e))
narrowing_by false false e = absurd (false≢true (ap is_narrowing e))

widening_by : (n o : Bool) → change_by n o ≡ Widens → o ≡ true
widening_by n true e = refl
widening_by true false e = absurd (false≢true (ap is_widening e))
widening_by false false e = absurd (false≢true (ap is_widening e))

same_by : (n o : Bool) → change_by n o ≡ Same → (n ≡ true) × (o ≡ true)
same_by true true e = (refl, refl)
same_by true false e = absurd (false≢true (ap is_same e))
same_by false true e = absurd (false≢true (ap is_same e))
same_by false false e = absurd (false≢true (ap is_same e))

module _ (old made : Definitions) (mark : Text) (place : ℕ) (e : Text × Tree) (w : WaysValue)
    (there : slice_get old.structure_definitions place ≡ Some e) (profile : IsTrue (is_profile e.1)) (said : IsVerdict old made mark place e (both w)) where
  -- where a way holds, what conforms to the one conforms to the other
  held : (way : Direction) → holds (way_of w way) ≡ true
      → Includes (schema_of made) (sides_by way e.0 (mark ++ e.0)).0 (sides_by way e.0 (mark ++ e.0)).1
  held way is = ((said.3 way).holds (is_none_of (way_of w way).blamed is) place e (0, refl) there profile).3.1

  pub narrows_new : change_of w ≡ Narrows → Includes (schema_of made) e.0 (mark ++ e.0)
  narrows_new is = held new_in_old (narrowing_by (holds w.new_in_old) (holds w.old_in_new) is)

  pub widens_old : change_of w ≡ Widens → Includes (schema_of made) (mark ++ e.0) e.0
  widens_old is = held old_in_new (widening_by (holds w.new_in_old) (holds w.old_in_new) is)

  pub same_new : change_of w ≡ Same → Includes (schema_of made) e.0 (mark ++ e.0)
  same_new is = held new_in_old (same_by (holds w.new_in_old) (holds w.old_in_new) is).0

  pub same_old : change_of w ≡ Same → Includes (schema_of made) (mark ++ e.0) e.0
  same_old is = held old_in_new (same_by (holds w.new_in_old) (holds w.old_in_new) is).1
