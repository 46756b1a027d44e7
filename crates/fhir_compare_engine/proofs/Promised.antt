-- What a status promises, from what is answered and what was written.
use Rattle.std.proofs.Common.{◌≡◌, ℕ, List, None, Option, Result, Ok, Err, IsTrue, refl, ap, subst, ◌∙◌, arith}
use Rattle.std.specs.Io.KnownBytes.{Appends}
use Rattle.fhir_json.specs.Tree.{Text}
use Rattle.fhir_words.specs.declared.request.Audience.{Audience}
use Rattle.fhir_words.specs.declared.request.Format.{Format}
use Rattle.fhir_package.specs.Definitions.{Definitions}
use Rattle.fhir_package.specs.declared.folder.FolderFault.{FolderFault}
use Rattle.fhir_package.specs.Folder.{Files}
use Rattle.fhir_package.specs.ReadFiles.{ReadFiles}
use Rattle.fhir_package.specs.Surveying.{Surveyed, survey, refusal}
use Rattle.fhir_answers.specs.declared.reply.Status.{Status}
use Rattle.fhir_answers.specs.declared.reply.Status.TheVariants.{Yes, No, Open, Fault, Unwritten, Usage, NoMemory}
use Rattle.fhir_answers.specs.Session.{SessionValue, IsSessionOf}
use Rattle.fhir_answers.specs.Replying.{ReplyValue, written, noted, told, status_of, out_of, is_told}
use Rattle.fhir_engine.specs.Ending.{HasEnded}
use Rattle.fhir_engine.specs.Reading.{IsReadOf}
use Rattle.fhir_compare.specs.declared.verdict.Compared.{Compared}
use Rattle.fhir_compare.specs.Comparing.{IsComparison, Said}
use Rattle.fhir_compare.specs.Views.{all_said}
use Rattle.fhir_compare_lines.specs.declared.parts.Part.{Part}
use Rattle.fhir_compare_lines.specs.declared.parts.Part.TheVariants as part
use Rattle.fhir_compare_lines.specs.Parts.{part_of}
use Rattle.fhir_compare_lines.specs.Report.{IsReport}
use Rattle.fhir_compare_engine.specs.Answering.{part_status, IsTold, IsNew, IsReplyBy, IsReply, IsAnswer, IsReplyRead, IsAnswered, IsPromised}

-- ---- replies

module _ (audience : Audience) (format : Format) where
  pub told_so : (old new : ReadFiles) (reply : ReplyValue) → IsTrue (is_told reply) → IsReply audience format old new reply
  told_so old new (written status out) h = absurd cc
  told_so old new (noted status out notes) h = absurd cc
  told_so old new (told status err) h = tt

  pub answer_so : (session : SessionValue) (old new : ReadFiles) (made : Surveyed) (mark : Text) (types : ℕ) (reply : ReplyValue)
      → IsSessionOf old session → refusal session.survey ≡ None → refusal (survey new) ≡ None
      → IsNew session.survey.definitions (survey new) made mark types
      → IsReplyBy audience format session.survey.definitions made.definitions mark types reply → IsReply audience format old new reply
  answer_so session old new made mark types (written status out) is old_right new_right is_new told_is = record {
    session = session;
    is_session = is;
    old_right = old_right;
    new_right = new_right;
    made = made;
    mark = mark;
    types = types;
    is_new = is_new;
    is_told = told_is;
  }
  answer_so session old new made mark types (noted status out notes) is old_right new_right is_new told_is = absurd told_is
  answer_so session old new made mark types (told status err) is old_right new_right is_new told_is = absurd told_is

-- a comparison of equal packages behind equal marks
pub compared_as : (old made o m : Definitions) (mark k : Text) (said : List Said) → o ≡ old → m ≡ made → k ≡ mark → IsComparison o m k said
    → IsComparison old made mark said
compared_as old made o m mark k said e f g is =
    subst (λ (x : Definitions). IsComparison x made mark said) e
    (subst (λ (y : Definitions). IsComparison o y mark said) f (subst (λ (t : Text). IsComparison o m t said) g is))

-- ---- statuses

zero_or_one : (n : ℕ) (p : Part) → n ≡ part_status p → (n ≡ 2 → ⊥) × (n ≡ 4 → ⊥)
zero_or_one n part.None h = (λ e. omega arith, λ e. omega arith)
zero_or_one n part.Minor h = (λ e. omega arith, λ e. omega arith)
zero_or_one n part.Major h = (λ e. omega arith, λ e. omega arith)

module _ (audience : Audience) (format : Format) (old new : Files) (before after : Option (List ℕ)) where
  answered : (n : ℕ) (o m : Result ReadFiles FolderFault) (reply : ReplyValue) → IsReadOf old o → IsReadOf new m
      → IsReplyRead audience format o m reply → status_of reply ≡ n → Appends before after (out_of reply) → (IsTrue (is_told reply) → ⊥)
      → IsAnswered audience format old new n before after
  answered n (Ok a) (Ok b) (written status out) of_old of_new is same appends quiet =
      (a, b, out, of_old, of_new, subst (λ (k : ℕ). IsAnswer audience format a b k out) same is, appends)
  answered n (Ok a) (Ok b) (noted status out notes) of_old of_new is same appends quiet = absurd is
  answered n (Ok a) (Ok b) (told status err) of_old of_new is same appends quiet = absurd (quiet refl)
  answered n (Err f) m reply of_old of_new is same appends quiet = absurd (quiet is)
  answered n (Ok a) (Err f) reply of_old of_new is same appends quiet = absurd (quiet is)

  never : (n : ℕ) → IsAnswered audience format old new n before after → (n ≡ 2 → ⊥) × (n ≡ 4 → ⊥)
  never n h = zero_or_one n _ h.5.is_told.status_is

  pub promised : (status : Status) (o m : Result ReadFiles FolderFault) (reply : ReplyValue) → IsReadOf old o → IsReadOf new m
      → IsReplyRead audience format o m reply → HasEnded status before after reply → (IsTrue (is_told reply) → status ≡ Fault)
      → IsPromised status audience format old new before after
  promised Yes o m reply of_old of_new is ended fault =
      answered 0 o m reply of_old of_new is ended.0 ended.1 (λ t. let e = fault t in cc)
  promised No o m reply of_old of_new is ended fault =
      answered 1 o m reply of_old of_new is ended.0 ended.1 (λ t. let e = fault t in cc)
  promised Open o m reply of_old of_new is ended fault =
      (never 2 (answered 2 o m reply of_old of_new is ended.0 ended.1 (λ t. let e = fault t in cc))).0 refl
  promised Fault o m reply of_old of_new is ended fault = tt
  promised Unwritten o m reply of_old of_new is ended fault = tt
  promised Usage o m reply of_old of_new is ended fault =
      (never 4 (answered 4 o m reply of_old of_new is ended.0 ended.1 (λ t. let e = fault t in cc))).1 refl
  promised NoMemory o m reply of_old of_new is ended fault = tt

-- ---- what is told

-- by what `compare`, `part_of` and `comparison_text` say
pub told_by : (audience : Audience) (format : Format) (old made : Definitions) (mark : Text) (types : ℕ) (compared : List Compared) (p : Part)
    (status : ℕ) (text out : Text) → IsComparison old made mark (all_said compared) → p ≡ part_of audience (all_said compared)
    → status ≡ part_status p → IsReport format old made compared types p text → text ≡ out → IsTold audience format old made mark types status out
told_by audience format old made mark types compared p status text out is part_is status_is report text_is = record {
  compared = compared;
  is_comparison = is;
  status_is = status_is ∙ ap (λ (q : Part). part_status q) part_is;
  report =
      subst (λ (t : Text). IsReport format old made compared types (part_of audience (all_said compared)) t) text_is
      (subst (λ (q : Part). IsReport format old made compared types q text) part_is report);
}
