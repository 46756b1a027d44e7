-- What is so of each reply to a request: cases by what is answered.
use Rattle.std.proofs.Common.{◌≡◌, ℕ, Bool, true, false, ◌||◌, eqb, ltb, List, [], ◌∷◌, Option, None, Some, Result, Ok, Err, get_or, codes, refl, sym, ap, ◌∙◌, subst, arith, inl, inr, IsTrue}
use Rattle.std.specs.Prelude.{◌⊎◌}
use Rattle.std.specs.Option.{option_map_or}
use Rattle.std.specs.List.{list_any}
use Rattle.std.proofs.lemmas.Bool.{false≢true, ltb-true, ne_eqb}
use Rattle.fhir_json.specs.Tree.{Text}
use Rattle.fhir_package.specs.Definitions.{Definitions}
use Rattle.fhir_package.specs.Faults.{fault_number, fault_subject}
use Rattle.fhir_package.specs.Surveying.{FileFault, refusal}
use Rattle.fhir_schema.specs.Schemas.{SchemaValue, unusable}
use Rattle.fhir_elements.specs.declared.reason.Reason.{Reason}
use Rattle.fhir_certificate.specs.declared.fault.CertFault.{CertFault}
use Rattle.fhir_certificate.specs.declared.pair.Pair.{Pair}
use Rattle.fhir_certificate.specs.Migrating.{migrated}
use Rattle.fhir_certificate.specs.Reading.{reading}
use Rattle.fhir_cert_check.specs.Rule.{RuleName}
use Rattle.fhir_cert_check.specs.Checking.{answer_of as certificate_answer}
use Rattle.fhir_commands.specs.declared.reply.Standing.{Standing}
use Rattle.fhir_commands.specs.declared.reply.Standing.TheVariants as standings
use Rattle.fhir_findings.specs.Selecting.{SelectionValue, unknown_place, asked_selection, profile_selection}
use Rattle.fhir_replies.specs.Deriving.{Derivation, derives, fails, missing, unusable as unusable_side}
use Rattle.fhir_words.specs.Requests.{RequestValue, certify, migrate, validate, validate_given, snapshot, derive, counter, counter_given, check, unread}
use Rattle.fhir_answers.specs.Answering.{AnswerValue, stated, judged, judged_as_given, listed, between, countered, countered_as_given, reported, IsReply, IsAnswered, IsGivenReply, IsJudgedReply, IsListed, answer_by, package_answer, file_answer, certify_answer, migrate_answer, validate_answer, given_answer, counter_given_answer, only_answer, report_answer, list_reply, profile_reply, unread_reply}
use Rattle.fhir_answers.specs.ByLines.{IsByLines}
use Rattle.fhir_answers.specs.Replying.{ReplyValue, written, noted, told, status_of, out_of, is_told, answer_noted, fault_reply, checked_reply, migrated_reply, derivation_reply, counter_reply, certificate_reply}
use Rattle.fhir_answers.specs.Session.{SessionValue, schema_in}
use Rattle.fhir_answers.specs.Showing.{IsCounterReply}
use Rattle.fhir_answers.specs.Status.{code_of, standing_status, report_status}
use Rattle.fhir_answers.specs.Views.{file_at}
use Rattle.fhir_report.specs.Faultless.{CertificateValue}
use Rattle.answer_laws.specs.Manual.{statuses, is_one_of, asks_for_outcome}

-- ---- notes change no answer

pub noted_status : (notes : Text) (status : ℕ) (out : Text) → status_of (answer_noted notes status out) ≡ status
noted_status [] status out = refl
noted_status (b ∷ notes) status out = refl

pub noted_out : (notes : Text) (status : ℕ) (out : Text) → out_of (answer_noted notes status out) ≡ out
noted_out [] status out = refl
noted_out (b ∷ notes) status out = refl

pub noted_told : (notes : Text) (status : ℕ) (out : Text) → is_told (answer_noted notes status out) ≡ false
noted_told [] status out = refl
noted_told (b ∷ notes) status out = refl

-- ---- a property of replies that each fault of the input has

module _ (P : ReplyValue → Type 0) (at_fault : (number subject : Text) → P (fault_reply number subject)) where
  packed : (fault : Option FileFault) (answer : AnswerValue) → ((reply : ReplyValue) → IsReply answer reply → P reply)
      → (reply : ReplyValue) → IsReply (package_answer fault answer) reply → P reply
  packed None answer each reply is = each reply is
  packed (Some fault) answer each reply is = subst P (sym is) (at_fault (fault_number fault) (fault_subject fault))

  filed : (answer : Text → AnswerValue) (name : Text) (file : Option Text) → ((bytes : Text) (reply : ReplyValue) → IsReply (answer bytes) reply → P reply)
      → (reply : ReplyValue) → IsReply (file_answer answer name file) reply → P reply
  filed answer name None each reply is = subst P (sym is) (at_fault (codes "read") name)
  filed answer name (Some bytes) each reply is = each bytes reply is

  by_lines : (Q : List Text → Text → ReplyValue → Type 0) (s : SessionValue) (name lines : Text)
      → ((texts : List Text) (notes : Text) (reply : ReplyValue) → Q texts notes reply → P reply)
      → (reply : ReplyValue) → IsByLines Q s name lines reply → P reply
  by_lines Q s name lines each reply (inl read) = each read.1.0 _ reply read.1.2
  by_lines Q s name lines each reply (inr unreadable) = subst P (sym unreadable.1) (at_fault (codes "read") name)

  -- ---- certificates

  module _ (if_yes : P (written 0 (codes "yes\n"))) (if_no : (out : Text) → P (written 1 out)) where
    certified : (name : Text) (s : SchemaValue) (r : Result (Option (Pair × RuleName)) CertFault) → P (checked_reply name s r)
    certified name s (Ok None) = if_yes
    certified name s (Ok (Some wrong)) = if_no _
    certified name s (Err fault) = at_fault _ name

  migrates : ((out : Text) → P (written 0 out)) → (name : Text) (r : Result Text CertFault) → P (migrated_reply name r)
  migrates text name (Ok out) = text out
  migrates text name (Err fault) = at_fault _ name

  derivations : ((out : Text) → P (written 0 out)) → ((out : Text) → P (written 1 out)) → (s : SchemaValue) (derived base : Text) (d : Derivation)
      → P (derivation_reply s derived base d)
  derivations if_yes if_no s derived base (derives c) = if_yes _
  derivations if_yes if_no s derived base (fails pair rule) = if_no _
  derivations if_yes if_no s derived base (missing side) = at_fault (codes "D1") _
  derivations if_yes if_no s derived base (unusable_side side) = at_fault (codes "D2") _

  -- ---- counterexamples, with what is told of the lines of a file

  module _ (if_yes : (notes out : Text) → P (answer_noted notes 0 out)) (if_no : (notes out : Text) → P (answer_noted notes 1 out))
      (if_open : (notes out : Text) → P (answer_noted notes 2 out)) where
    countered_so : (s : SchemaValue) (notes derived base : Text) (found : Option Text) (d : Derivation) → P (counter_reply s notes derived base found d)
    countered_so s notes derived base found (derives c) = if_yes notes _
    countered_so s notes derived base None (fails pair rule) = if_open notes _
    countered_so s notes derived base (Some bytes) (fails pair rule) = if_no notes _
    countered_so s notes derived base found (missing side) = at_fault (codes "D1") _
    countered_so s notes derived base found (unusable_side side) = at_fault (codes "D2") _

  -- ---- the list of unread rules

  listed_rules : ((out : Text) → P (written 0 out)) → (s : SessionValue) (profile : Option Text) → P (unread_reply s profile)
  listed_rules text s None = text _
  listed_rules text s (Some url) = by (unusable (schema_in s) url)
    where
      selected : (o : Option SelectionValue) → P (option_map_or (list_reply s) o (fault_reply (codes "V1") url))
      selected None = at_fault (codes "V1") url
      selected (Some selection) = text _

      by : (reason : Option Reason) → P (profile_reply s url reason)
      by None = selected (profile_selection url s.survey.definitions)
      by (Some reason) = at_fault (codes "V2") _

  -- ---- snapshots

  snapped : ((out : Text) → P (written 0 out)) → (p : Definitions) (url : Text) (reply : ReplyValue) → IsListed p url reply → P reply
  snapped text p url (written status out) is = subst P (sym is.2) (text _)
  snapped text p url (noted status out notes) is = absurd is
  snapped text p url (told status err) is = subst P (sym is.2) (at_fault _ url)

  -- ---- reports

  reported_so : ((out : Text) → P (written 0 out)) → ((out : Text) → P (written 1 out))
      → (is_clean : Bool) (text : Text) → P (written (code_of (report_status is_clean)) text)
  reported_so if_yes if_no true text = if_yes text
  reported_so if_yes if_no false text = if_no text

  -- ---- outcomes

  module _ (each : (standing : Standing) (notes out : Text) → P (answer_noted notes (code_of (standing_status standing)) out)) where
    answered : (s : SchemaValue) (profile bytes : Text) (reply : ReplyValue) → IsAnswered s profile bytes reply → P reply
    answered s profile bytes reply is = subst P (sym is.is_reply) (each is.standing [] _)

    given_answered : (s : SessionValue) (profile bytes name lines : Text) (reply : ReplyValue) → IsGivenReply s profile bytes name lines reply → P reply
    given_answered s profile bytes name lines reply is =
        by_lines (λ texts notes. IsJudgedReply (schema_in s) texts notes profile bytes) s name lines
        (λ texts notes reply is. subst P (sym is.is_reply) (each is.standing notes _)) reply is

-- ---- all requests

-- a fault of the input; or an answer with one of the statuses of the request, with 3 only where it is an outcome
abbrev Shape : RequestValue → ReplyValue → Type 0
Shape q reply =
    ((number : Text) × (subject : Text) × (reply ≡ fault_reply number subject))
    ⊎ ((notes : Text) × (k : ℕ) × (out : Text) × IsTrue (list_any (eqb k) (statuses q)) × IsTrue (asks_for_outcome q || ltb k 3)
    × (reply ≡ answer_noted notes k out))

at_fault : (q : RequestValue) (number subject : Text) → Shape q (fault_reply number subject)
at_fault q number subject = inl (number, subject, refl)

outcome_shape : (folder profile name : Text) (standing : Standing) (notes out : Text)
    → Shape (validate folder profile name) (answer_noted notes (code_of (standing_status standing)) out)
outcome_shape folder profile name standings.Conforms notes out = inr (notes, 0, out, refl, refl, refl)
outcome_shape folder profile name standings.Violates notes out = inr (notes, 1, out, refl, refl, refl)
outcome_shape folder profile name standings.Open notes out = inr (notes, 2, out, refl, refl, refl)
outcome_shape folder profile name standings.Fault notes out = inr (notes, 3, out, refl, refl, refl)

given_shape : (folder profile name given : Text) (standing : Standing) (notes out : Text)
    → Shape (validate_given folder profile name given) (answer_noted notes (code_of (standing_status standing)) out)
given_shape folder profile name given standings.Conforms notes out = inr (notes, 0, out, refl, refl, refl)
given_shape folder profile name given standings.Violates notes out = inr (notes, 1, out, refl, refl, refl)
given_shape folder profile name given standings.Open notes out = inr (notes, 2, out, refl, refl, refl)
given_shape folder profile name given standings.Fault notes out = inr (notes, 3, out, refl, refl, refl)

shaped : (q : RequestValue) (s : SessionValue) (files : List (Option Text)) (reply : ReplyValue) → IsReply (answer_by q s files) reply → Shape q reply
shaped (certify folder name) s files reply is =
    packed (Shape (certify folder name)) (at_fault (certify folder name)) (refusal s.survey) (certify_answer (schema_in s) name (file_at files 0))
    (filed (Shape (certify folder name)) (at_fault (certify folder name)) (λ bytes. stated (certificate_reply name (schema_in s) bytes)) name (file_at files 0)
    (λ bytes reply is. subst (Shape (certify folder name)) (sym is)
    (certified (Shape (certify folder name)) (at_fault (certify folder name)) (inr ([], 0, codes "yes\n", refl, refl, refl)) (λ out. inr ([], 1, out, refl, refl, refl)) name (schema_in s)
    (certificate_answer (reading (schema_in s) bytes) (schema_in s)))))
    reply is
shaped (migrate folder name) s files reply is =
    packed (Shape (migrate folder name)) (at_fault (migrate folder name)) (refusal s.survey) (migrate_answer (schema_in s) name (file_at files 0))
    (filed (Shape (migrate folder name)) (at_fault (migrate folder name)) (λ bytes. stated (migrated_reply name (migrated (schema_in s) bytes))) name (file_at files 0)
    (λ bytes reply is. subst (Shape (migrate folder name)) (sym is)
    (migrates (Shape (migrate folder name)) (at_fault (migrate folder name)) (λ out. inr ([], 0, out, refl, refl, refl)) name (migrated (schema_in s) bytes))))
    reply is
shaped (validate folder profile name) s files reply is =
    packed (Shape (validate folder profile name)) (at_fault (validate folder profile name)) (refusal s.survey) (validate_answer (schema_in s) profile name (file_at files 0))
    (filed (Shape (validate folder profile name)) (at_fault (validate folder profile name)) (λ bytes. judged (schema_in s) profile bytes) name (file_at files 0)
    (λ bytes. answered (Shape (validate folder profile name)) (at_fault (validate folder profile name)) (outcome_shape folder profile name) (schema_in s) profile bytes))
    reply is
shaped (validate_given folder profile name given) s files reply is =
    packed (Shape (validate_given folder profile name given)) (at_fault (validate_given folder profile name given)) (refusal s.survey) (given_answer s profile name (file_at files 0) given (file_at files 1))
    (filed (Shape (validate_given folder profile name given)) (at_fault (validate_given folder profile name given)) (λ bytes. file_answer (λ texts. judged_as_given s profile bytes given texts) given (file_at files 1)) name (file_at files 0)
    (λ bytes. filed (Shape (validate_given folder profile name given)) (at_fault (validate_given folder profile name given)) (λ texts. judged_as_given s profile bytes given texts) given (file_at files 1)
    (λ lines. given_answered (Shape (validate_given folder profile name given)) (at_fault (validate_given folder profile name given)) (given_shape folder profile name given) s profile bytes given lines)))
    reply is
shaped (snapshot folder url) s files reply is =
    packed (Shape (snapshot folder url)) (at_fault (snapshot folder url)) (refusal s.survey) (listed s.survey.definitions url)
    (snapped (Shape (snapshot folder url)) (at_fault (snapshot folder url)) (λ out. inr ([], 0, out, refl, refl, refl)) s.survey.definitions url)
    reply is
shaped (derive folder derived base) s files reply is =
    packed (Shape (derive folder derived base)) (at_fault (derive folder derived base)) (refusal s.survey) (between (schema_in s) derived base)
    (λ reply is. subst (Shape (derive folder derived base)) (sym is.is_reply)
    (derivations (Shape (derive folder derived base)) (at_fault (derive folder derived base)) (λ out. inr ([], 0, out, refl, refl, refl)) (λ out. inr ([], 1, out, refl, refl, refl)) (schema_in s) derived base
    is.derivation))
    reply is
shaped (counter folder derived base) s files reply is =
    packed (Shape (counter folder derived base)) (at_fault (counter folder derived base)) (refusal s.survey) (countered (schema_in s) derived base)
    (λ reply is. subst (Shape (counter folder derived base)) (sym is.is_reply)
    (countered_so (Shape (counter folder derived base)) (at_fault (counter folder derived base)) (λ notes out. inr (notes, 0, out, refl, refl, refl)) (λ notes out. inr (notes, 1, out, refl, refl, refl))
    (λ notes out. inr (notes, 2, out, refl, refl, refl)) (schema_in s) [] derived base is.found is.derivation))
    reply is
shaped (counter_given folder derived base given) s files reply is =
    packed (Shape (counter_given folder derived base given)) (at_fault (counter_given folder derived base given)) (refusal s.survey) (counter_given_answer s derived base given (file_at files 0))
    (filed (Shape (counter_given folder derived base given)) (at_fault (counter_given folder derived base given)) (λ lines. countered_as_given s derived base given lines) given (file_at files 0)
    (λ lines. by_lines (Shape (counter_given folder derived base given)) (at_fault (counter_given folder derived base given)) (λ texts notes. IsCounterReply (Some texts) (schema_in s) notes derived base) s given lines
    (λ texts notes reply is. subst (Shape (counter_given folder derived base given)) (sym is.is_reply)
    (countered_so (Shape (counter_given folder derived base given)) (at_fault (counter_given folder derived base given)) (λ notes out. inr (notes, 0, out, refl, refl, refl)) (λ notes out. inr (notes, 1, out, refl, refl, refl))
    (λ notes out. inr (notes, 2, out, refl, refl, refl)) (schema_in s) notes derived base is.found is.derivation))))
    reply is
shaped (check folder certificate prefixes manner) s files reply is =
    only_so (check folder certificate prefixes manner) prefixes (unknown_place s.survey.definitions prefixes)
    (report_answer manner (asked_selection prefixes s.survey.definitions) s certificate (file_at files 0))
    (report_so certificate) reply is
  where
    only_so : (q : RequestValue) (prefixes : List Text) (place : Option ℕ) (answer : AnswerValue)
        → ((reply : ReplyValue) → IsReply answer reply → Shape q reply) → (reply : ReplyValue) → IsReply (only_answer prefixes place answer) reply → Shape q reply
    only_so q prefixes None answer each reply is = each reply is
    only_so q prefixes (Some place) answer each reply is = subst (Shape q) (sym is) (at_fault q (codes "only") (get_or prefixes place []))

    one : (c : Option CertificateValue) (reply : ReplyValue)
        → IsReply (reported manner (asked_selection prefixes s.survey.definitions) s c) reply → Shape (check folder certificate prefixes manner) reply
    one c reply is = subst (Shape (check folder certificate prefixes manner)) (sym is.is_reply)
        (reported_so (Shape (check folder certificate prefixes manner)) (at_fault (check folder certificate prefixes manner)) (λ out. inr ([], 0, out, refl, refl, refl)) (λ out. inr ([], 1, out, refl, refl, refl)) is.is_clean is.text)

    report_so : (name : Option Text) (reply : ReplyValue)
        → IsReply (report_answer manner (asked_selection prefixes s.survey.definitions) s name (file_at files 0)) reply → Shape (check folder certificate prefixes manner) reply
    report_so None reply is = one None reply is
    report_so (Some name) reply is =
        filed (Shape (check folder certificate prefixes manner)) (at_fault (check folder certificate prefixes manner)) (λ bytes. reported manner (asked_selection prefixes s.survey.definitions) s (Some (name, bytes))) name
        (file_at files 0) (λ bytes. one (Some (name, bytes))) reply is
shaped (unread folder profile) s files reply is =
    packed (Shape (unread folder profile)) (at_fault (unread folder profile)) (refusal s.survey) (stated (unread_reply s profile))
    (λ reply is. subst (Shape (unread folder profile)) (sym is) (listed_rules (Shape (unread folder profile)) (at_fault (unread folder profile)) (λ out. inr ([], 0, out, refl, refl, refl)) s profile))
    reply is

-- each request may have a fault of the input
has_three : (q : RequestValue) → IsTrue (list_any (eqb 3) (statuses q))
has_three (certify folder name) = refl
has_three (migrate folder name) = refl
has_three (validate folder profile name) = refl
has_three (validate_given folder profile name given) = refl
has_three (snapshot folder url) = refl
has_three (derive folder derived base) = refl
has_three (counter folder derived base) = refl
has_three (counter_given folder derived base given) = refl
has_three (check folder certificate prefixes manner) = refl
has_three (unread folder profile) = refl

under_three : (k : ℕ) → ltb k 3 ≡ true → false ≡ eqb k 3
under_three k under = sym (ne_eqb k 3 (λ same. absurd (omega (arith, same, ltb-true k 3 under))))

module _ (q : RequestValue) (s : SessionValue) (files : List (Option Text)) (reply : ReplyValue) (is : IsReply (answer_by q s files) reply) where
  pub one_status : IsTrue (is_one_of (statuses q) reply)
  one_status = by (shaped q s files reply is)
    where
      by : Shape q reply → IsTrue (is_one_of (statuses q) reply)
      by (inl h) = subst (λ r. IsTrue (is_one_of (statuses q) r)) (sym h.2) (has_three q)
      by (inr h) = subst (λ n. IsTrue (list_any (eqb n) (statuses q))) (sym (ap status_of h.5 ∙ noted_status h.0 h.1 h.2)) h.3

  pub errors_told : asks_for_outcome q ≡ false → is_told reply ≡ eqb (status_of reply) 3
  errors_told plain = by (shaped q s files reply is)
    where
      by : Shape q reply → is_told reply ≡ eqb (status_of reply) 3
      by (inl h) = subst (λ r. is_told r ≡ eqb (status_of r) 3) (sym h.2) refl
      by (inr h) =
          ap is_told h.5 ∙ noted_told h.0 h.1 h.2
          ∙ under_three h.1 (subst (λ b. (b || ltb h.1 3) ≡ true) plain h.4)
          ∙ sym (ap (λ n. eqb n 3) (ap status_of h.5 ∙ noted_status h.0 h.1 h.2))

  pub told_faults : is_told reply ≡ true → status_of reply ≡ 3
  told_faults told_so = by (shaped q s files reply is)
    where
      by : Shape q reply → status_of reply ≡ 3
      by (inl h) = ap status_of h.2
      by (inr h) = absurd (false≢true (sym (ap is_told h.5 ∙ noted_told h.0 h.1 h.2) ∙ told_so))
