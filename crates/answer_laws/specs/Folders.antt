-- Folders, and what is printed of them and read again.
use Rattle.std.specs.Prelude.{◌≡◌, ◌≤◌, ◌+◌, ◌∷◌, length, List, Option, Some}
use Rattle.fhir_json.specs.Tree.{Text}
use Rattle.fhir_package.specs.Definitions.{Definitions}
use Rattle.fhir_package.specs.Folder.{Files}
use Rattle.fhir_package.specs.Packing.{json_files}
use Rattle.fhir_package.specs.ReadFiles.{ReadFiles, given}
use Rattle.fhir_package.specs.Surveying.{survey}
use Rattle.fhir_certificate.specs.Certificate.{CertificateValue}
use Rattle.fhir_certificate.specs.Format.{text_of}
use Rattle.fhir_certificate.specs.Judging.{limit}
use Rattle.fhir_certificate.specs.Writing.{written_by}
use Rattle.fhir_words.specs.Requests.{certify}
use Rattle.fhir_answers.specs.Replying.{ReplyValue, status_of}
use Rattle.fhir_answers.specs.Session.{SessionValue, IsSessionOf, schema_in}
use Rattle.snapshot_laws.specs.Right.{AreRight}
use Rattle.answer_laws.specs.Answers.{Replies}

-- the JSON files of a folder, each of which the device gave
abbrev pub files_in : Files → ReadFiles
files_in folder = given (json_files folder)

-- the definitions that stand in them
abbrev pub definitions_in : Files → Definitions
definitions_in folder = (survey (files_in folder)).definitions

-- the session is that of the folder's files
abbrev pub IsSessionIn : Files → SessionValue → Type 0
IsSessionIn folder s = IsSessionOf (files_in folder) s

-- each definition of the folder brings what snapshots are made of
abbrev pub IsRight : Files → Type 0
IsRight folder = AreRight (definitions_in folder)

-- The text is that of a certificate. If that has no more pairs than a text may have, `certify` has status 0 of a file with this text, whatever its name.
abbrev pub IsFoundRight : SessionValue → Text → Type 0
IsFoundRight s text =
    (c : CertificateValue) × (text ≡ text_of (written_by (schema_in s) c))
    × (length c.items + length c.kids ≤ limit
    → (named name : Text) (files : List (Option Text)) (reply : ReplyValue) → Replies (certify named name) s (Some text ∷ files) reply → status_of reply ≡ 0)
