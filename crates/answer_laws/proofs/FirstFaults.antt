-- Which of several faults is told.
use Rattle.std.proofs.Common.{◌≡◌, Bool, true, false, ◌||◌, cond, List, Option, None, Some, refl, sym, ap, ◌∙◌, subst}
use Rattle.std.proofs.lemmas.Bool.{false≢true}
use Rattle.fhir_json.specs.Tree.{Text}
use Rattle.fhir_package.specs.Surveying.{FileFault, refusal}
use Rattle.fhir_derive_check.specs.declared.fault.DeriveFault.{DeriveFault}
use Rattle.fhir_derive_check.specs.declared.fault.DeriveFault.TheVariants.{Missing, Unusable}
use Rattle.fhir_derive_check.specs.declared.fault.Side.{Side}
use Rattle.fhir_derive_check.specs.declared.fault.Side.TheVariants.{Derived, Base}
use Rattle.fhir_derive_check.specs.Faults.{refusal as refusal_by}
use Rattle.fhir_words.specs.Requests.{RequestValue, certify, migrate, validate, validate_given, snapshot, derive, counter, counter_given, check, unread}
use Rattle.fhir_answers.specs.Answering.{AnswerValue, stated, listed, between, countered, IsReply, answer_by, package_answer, certify_answer, migrate_answer, validate_answer, given_answer, counter_given_answer, unread_reply}
use Rattle.fhir_answers.specs.Replying.{ReplyValue, refused_reply}
use Rattle.fhir_answers.specs.Session.{SessionValue, schema_in}
use Rattle.fhir_answers.specs.Views.{file_at}
use Rattle.answer_laws.specs.Manual.{lists_faults}

module _ (s : SessionValue) (files : List (Option Text)) (reply : ReplyValue) (fault : FileFault) (none : refusal s.survey ≡ Some fault) where
  refused : (answer : AnswerValue) → IsReply (package_answer (refusal s.survey) answer) reply → reply ≡ refused_reply fault
  refused answer is = subst (λ f. IsReply (package_answer f answer) reply) none is

  pub told_first : (q : RequestValue) → lists_faults q ≡ false → IsReply (answer_by q s files) reply → reply ≡ refused_reply fault
  told_first (certify folder name) plain is = refused (certify_answer (schema_in s) name (file_at files 0)) is
  told_first (migrate folder name) plain is = refused (migrate_answer (schema_in s) name (file_at files 0)) is
  told_first (validate folder profile name) plain is = refused (validate_answer (schema_in s) profile name (file_at files 0)) is
  told_first (validate_given folder profile name given) plain is =
      refused (given_answer s profile name (file_at files 0) given (file_at files 1)) is
  told_first (snapshot folder url) plain is = refused (listed s.survey.definitions url) is
  told_first (derive folder derived base) plain is = refused (between (schema_in s) derived base) is
  told_first (counter folder derived base) plain is = refused (countered (schema_in s) derived base) is
  told_first (counter_given folder derived base given) plain is = refused (counter_given_answer s derived base given (file_at files 0)) is
  told_first (check folder certificate prefixes manner) plain is = absurd (false≢true (sym plain))
  told_first (unread folder profile) plain is = refused (stated (unread_reply s profile)) is

-- of two tests of both sides, the first that passes
abbrev by_tests : (missing_derived missing_base unusable_derived unusable_base : Bool) → Option DeriveFault
by_tests d b e c = refusal_by (cond d (Some Derived) (cond b (Some Base) None)) (cond e (Some Derived) (cond c (Some Base) None))

pub missing_first : (d b e c : Bool) → (d || b) ≡ true → by_tests d b e c ≡ Some (Missing (cond d Derived Base))
missing_first true b e c h = refl
missing_first false true e c h = refl
missing_first false false e c h = absurd (false≢true h)

pub unusable_next : (d b e c : Bool) → (d || b) ≡ false → (e || c) ≡ true → by_tests d b e c ≡ Some (Unusable (cond e Derived Base))
unusable_next true b e c none h = absurd (false≢true (sym none))
unusable_next false true e c none h = absurd (false≢true (sym none))
unusable_next false false true c none h = refl
unusable_next false false false true none h = refl
unusable_next false false false false none h = absurd (false≢true h)
