-- What is answered.
use Rattle.std.specs.Prelude.{◌≡◌, ◌↔◌, List, [], ℕ, ◌++◌, get_or, Bool, true, false, IsTrue, Option, None, Some, codes}
use Rattle.std.specs.Option.{option_map_or}
use Rattle.fhir_json.specs.Tree.{Text, Tree}
use Rattle.fhir_json.specs.Compact.{compact}
use Rattle.fhir_elements.specs.Element.{Element}
use Rattle.fhir_package.specs.Definitions.{Definitions}
use Rattle.fhir_package.specs.Surveying.{FileFault, refusal}
use Rattle.fhir_overlay.specs.Completed.{elements_tree}
use Rattle.fhir_snapshot.specs.declared.fault.SnapNumber.{SnapNumber}
use Rattle.fhir_snapshot.specs.declared.fault.SnapNumber.TheVariants.{S5}
use Rattle.fhir_snapshot.specs.Faults.{number_text}
use Rattle.fhir_snapshot.specs.Snapshots.{IsSnapshot}
use Rattle.fhir_snapshot.specs.Refusing.{Applies}
use Rattle.fhir_elements.specs.declared.reason.Reason.{Reason}
use Rattle.fhir_elements.specs.Numbers.{reason_number}
use Rattle.fhir_schema.specs.Schemas.{SchemaValue, unusable}
use Rattle.fhir_certificate.specs.Migrating.{migrated}
use Rattle.fhir_commands.specs.declared.reply.Standing.{Standing}
use Rattle.fhir_replies.specs.Judging.{IsJudged, IsJudgedAsGiven}
use Rattle.fhir_replies.specs.Deriving.{Derivation, IsDerivationOf}
use Rattle.fhir_words.specs.declared.request.Manner.{Manner}
use Rattle.fhir_findings.specs.Selecting.{SelectionValue, unknown_place, asked_selection, profile_selection}
use Rattle.fhir_unread.specs.Listing.{listing}
use Rattle.fhir_report.specs.Faultless.{CertificateValue}
use Rattle.fhir_answers.specs.ByLines.{IsByLines}
use Rattle.fhir_answers.specs.Replying.{ReplyValue, written, noted, told, answer_noted, fault_reply, refused_reply, unreadable_reply, certificate_reply, migrated_reply, derivation_reply}
use Rattle.fhir_answers.specs.Reporting.{IsAllRight, IsReportOf}
use Rattle.fhir_words.specs.Requests.{RequestValue, certify, migrate, validate, validate_given, snapshot, derive, counter, counter_given, check, unread}
use Rattle.fhir_answers.specs.Session.{SessionValue, schema_in}
use Rattle.fhir_answers.specs.Showing.{IsCounterReply, IsGivenCounter}
use Rattle.fhir_answers.specs.Status.{code_of, standing_status, report_status}
use Rattle.fhir_answers.specs.Views.{file_at}

-- ---- answers, and the replies that are theirs

-- a reply that is stated; one on the bytes of a resource and a profile, also where a user vouches for unread rules by the bytes of a file of a
-- name; one on the definition at a url; one on a derived profile and its base, whether a certificate is derived, or a resource is looked for
-- that shows that there is none, also by the bytes of such a file; or a report on what is selected of a session, and on a certificate
pub data AnswerValue : Type 0 where
  stated : ReplyValue → AnswerValue
  judged : SchemaValue → (profile bytes : List ℕ) → AnswerValue
  judged_as_given : SessionValue → (profile bytes name given : List ℕ) → AnswerValue
  listed : Definitions → List ℕ → AnswerValue
  between : SchemaValue → (derived base : List ℕ) → AnswerValue
  countered : SchemaValue → (derived base : List ℕ) → AnswerValue
  countered_as_given : SessionValue → (derived base name given : List ℕ) → AnswerValue
  reported : Manner → SelectionValue → SessionValue → Option CertificateValue → AnswerValue

-- The status says how the resource stands, and an outcome that says so is written, with a line feed.
pub record IsAnswered (s : SchemaValue) (profile bytes : Text) (reply : ReplyValue) : Type 0 where
  pub standing : Standing
  pub outcome : Tree
  pub is_judged : IsJudged s profile bytes standing outcome
  pub is_reply : reply ≡ written (code_of (standing_status standing)) (compact outcome ++ codes "\n")

-- The same where the rules with these texts hold, and notes are told beside it.
pub record IsJudgedReply (s : SchemaValue) (texts : List Text) (notes profile bytes : Text) (reply : ReplyValue) : Type 0 where
  pub standing : Standing
  pub outcome : Tree
  pub is_judged : IsJudgedAsGiven s texts profile bytes standing outcome
  pub is_reply : reply ≡ answer_noted notes (code_of (standing_status standing)) (compact outcome ++ codes "\n")

-- The same by the lines of a file.
abbrev pub IsGivenReply : SessionValue → (profile bytes name lines : Text) → ReplyValue → Type 0
IsGivenReply s profile bytes name lines reply =
    IsByLines (λ texts notes. IsJudgedReply (schema_in s) texts notes profile bytes) s name lines reply

-- whether the number is that of want of memory
abbrev pub is_of_memory : SnapNumber → Bool
is_of_memory S5 = true
is_of_memory _ = false

-- The elements of the snapshot of the definition at a url are written, with a line feed; or there is none, and a fault says so by a
-- number that applies.
abbrev pub IsListed : Definitions → Text → ReplyValue → Type 0
IsListed p url (written status out) =
    (es : List Element) × IsSnapshot p url es × (written status out ≡ written 0 (compact (elements_tree es) ++ codes "\n"))
IsListed p url (noted status out notes) = ⊥
IsListed p url (told status err) =
    (number : SnapNumber) × Applies p url number × (told status err ≡ fault_reply (number_text number) url)

-- What comes of the two profiles is told.
pub record IsDerivationReply (s : SchemaValue) (derived base : Text) (reply : ReplyValue) : Type 0 where
  pub derivation : Derivation
  pub is_derivation : IsDerivationOf s derived base derivation
  pub is_reply : reply ≡ derivation_reply s derived base derivation

-- The status says whether all is right, and a report is written.
pub record IsReported (manner : Manner) (selection : SelectionValue) (s : SessionValue) (certificate : Option CertificateValue) (reply : ReplyValue) : Type 0 where
  pub is_clean : Bool
  pub all_right : IsTrue is_clean ↔ IsAllRight selection s certificate
  pub text : Text
  pub is_report : IsReportOf manner selection s certificate text
  pub is_reply : reply ≡ written (code_of (report_status is_clean)) text

abbrev pub IsReply : AnswerValue → ReplyValue → Type 0
IsReply (stated answer) reply = reply ≡ answer
IsReply (judged s profile bytes) reply = IsAnswered s profile bytes reply
IsReply (judged_as_given s profile bytes name given) reply = IsGivenReply s profile bytes name given reply
IsReply (listed p url) reply = IsListed p url reply
IsReply (between s derived base) reply = IsDerivationReply s derived base reply
IsReply (countered s derived base) reply = IsCounterReply None s [] derived base reply
IsReply (countered_as_given s derived base name given) reply = IsGivenCounter s derived base name given reply
IsReply (reported manner selection s certificate) reply = IsReported manner selection s certificate reply

-- ---- the answer to a request

-- on the bytes of a file of that name, or on none where it can't be read
abbrev pub file_answer : (Text → AnswerValue) → Text → Option Text → AnswerValue
file_answer answer name None = stated (unreadable_reply name)
file_answer answer name (Some bytes) = answer bytes

-- where there is a package, and else the fault for which there is none
abbrev pub package_answer : Option FileFault → AnswerValue → AnswerValue
package_answer None answer = answer
package_answer (Some fault) answer = stated (refused_reply fault)

abbrev pub certify_answer : SchemaValue → Text → Option Text → AnswerValue
certify_answer s name file = file_answer (λ bytes. stated (certificate_reply name s bytes)) name file

abbrev pub migrate_answer : SchemaValue → Text → Option Text → AnswerValue
migrate_answer s name file = file_answer (λ bytes. stated (migrated_reply name (migrated s bytes))) name file

abbrev pub validate_answer : SchemaValue → Text → Text → Option Text → AnswerValue
validate_answer s profile name file = file_answer (λ bytes. judged s profile bytes) name file

-- of the bytes of the resource's file, and then those of the texts
abbrev pub given_answer : SessionValue → (profile name : Text) → Option Text → (given_name : Text) → Option Text → AnswerValue
given_answer s profile name file given_name given =
    file_answer (λ bytes. file_answer (λ texts. judged_as_given s profile bytes given_name texts) given_name given) name file

-- of the bytes of the texts' file
abbrev pub counter_given_answer : SessionValue → (derived base name : Text) → Option Text → AnswerValue
counter_given_answer s derived base name file = file_answer (λ lines. countered_as_given s derived base name lines) name file

abbrev pub report_answer : Manner → SelectionValue → SessionValue → Option Text → Option Text → AnswerValue
report_answer manner selection s None file = reported manner selection s None
report_answer manner selection s (Some name) file = file_answer (λ bytes. reported manner selection s (Some (name, bytes))) name file

-- where each prefix begins a url, and else the first that begins none
abbrev pub only_answer : List Text → Option ℕ → AnswerValue → AnswerValue
only_answer prefixes None answer = answer
only_answer prefixes (Some place) answer = stated (fault_reply (codes "only") (get_or prefixes place []))

abbrev pub check_answer : Manner → List Text → SessionValue → Option Text → Option Text → AnswerValue
check_answer manner prefixes s name file =
    only_answer prefixes (unknown_place s.survey.definitions prefixes)
    (report_answer manner (asked_selection prefixes s.survey.definitions) s name file)

-- the list of the unread rules that selected definitions carry
abbrev pub list_reply : SessionValue → SelectionValue → ReplyValue
list_reply s selection = written 0 (listing selection (schema_in s) s.survey)

-- that there is no definition at a url, or that it can't be used
abbrev pub profile_fault : SchemaValue → Text → ReplyValue
profile_fault s url =
    option_map_or (λ reason. fault_reply (codes "V2") (url ++ codes " " ++ reason_number reason)) (unusable s url) (fault_reply (codes "V1") url)

-- that of a profile and of what it reaches; or why it can't be used, or that it isn't there
abbrev pub profile_reply : SessionValue → Text → Option Reason → ReplyValue
profile_reply s url (Some reason) = fault_reply (codes "V2") (url ++ codes " " ++ reason_number reason)
profile_reply s url None = option_map_or (list_reply s) (profile_selection url s.survey.definitions) (fault_reply (codes "V1") url)

-- of the profile that is named, or of all definitions
abbrev pub unread_reply : SessionValue → Option Text → ReplyValue
unread_reply s None = list_reply s None
unread_reply s (Some url) = profile_reply s url (unusable (schema_in s) url)

-- of a session, and of the bytes of the first and of the second file that is asked about
abbrev pub answer_of : RequestValue → SessionValue → (first second : Option Text) → AnswerValue
answer_of (certify folder name) s first second = package_answer (refusal s.survey) (certify_answer (schema_in s) name first)
answer_of (migrate folder name) s first second = package_answer (refusal s.survey) (migrate_answer (schema_in s) name first)
answer_of (validate folder profile name) s first second = package_answer (refusal s.survey) (validate_answer (schema_in s) profile name first)
answer_of (validate_given folder profile name given) s first second =
    package_answer (refusal s.survey) (given_answer s profile name first given second)
answer_of (snapshot folder url) s first second = package_answer (refusal s.survey) (listed s.survey.definitions url)
answer_of (derive folder derived base) s first second = package_answer (refusal s.survey) (between (schema_in s) derived base)
answer_of (counter folder derived base) s first second = package_answer (refusal s.survey) (countered (schema_in s) derived base)
answer_of (counter_given folder derived base given) s first second =
    package_answer (refusal s.survey) (counter_given_answer s derived base given first)
answer_of (check folder certificate prefixes manner) s first second = check_answer manner prefixes s certificate first
answer_of (unread folder profile) s first second = package_answer (refusal s.survey) (stated (unread_reply s profile))

-- the same of the bytes of files, in the order of the words
abbrev pub answer_by : RequestValue → SessionValue → List (Option Text) → AnswerValue
answer_by q s files = answer_of q s (file_at files 0) (file_at files 1)
