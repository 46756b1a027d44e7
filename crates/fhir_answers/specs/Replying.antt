-- What the program writes, and with which status it ends.
use Rattle.std.specs.Prelude.{ℕ, List, [], ◌∷◌, ◌++◌, Bool, true, false, Option, None, Some, Result, Ok, Err, codes, string_bytes}
use Rattle.fhir_json.specs.Tree.{Text}
use Rattle.fhir_package.specs.Faults.{fault_number, fault_subject}
use Rattle.fhir_package.specs.Surveying.{FileFault}
use Rattle.fhir_schema.specs.Schemas.{SchemaValue}
use Rattle.fhir_certificate.specs.declared.fault.CertFault.{CertFault}
use Rattle.fhir_certificate.specs.declared.pair.Pair.{Pair}
use Rattle.fhir_certificate.specs.Faults.{cert_number}
use Rattle.fhir_certificate.specs.Format.{text_of}
use Rattle.fhir_certificate.specs.Reading.{reading}
use Rattle.fhir_certificate.specs.Writing.{written_by}
use Rattle.fhir_cert_check.specs.Rule.{RuleName}
use Rattle.fhir_cert_check.specs.Checking.{answer_of}
use Rattle.fhir_derive_check.specs.declared.fault.Side.{Side}
use Rattle.fhir_derive_check.specs.declared.fault.Side.TheVariants.{Derived, Base}
use Rattle.fhir_lines.specs.Lines.{escaped}
use Rattle.fhir_replies.specs.Deriving.{Derivation, derives, fails, missing, unusable}
use Rattle.fhir_answers.specs.declared.reply.Reply.{Reply}
use Rattle.fhir_answers.specs.declared.reply.Reply.TheVariants.{Answer, Noted, Fault}
use Rattle.fhir_answers.specs.Status.{code_of}
use Rattle.fhir_answers.specs.WrongText.{wrong_text}

-- a status, and what is written to standard output, or told on standard error, or both
pub data ReplyValue : Type 0 where
  written : ℕ → List ℕ → ReplyValue
  noted : ℕ → (out notes : List ℕ) → ReplyValue
  told : ℕ → List ℕ → ReplyValue

abbrev pub reply_seen : Reply → ReplyValue
reply_seen (Answer status out) = written (code_of status) out.items
reply_seen (Noted status out notes) = noted (code_of status) out.items (string_bytes notes)
reply_seen (Fault err) = told 3 (string_bytes err)

abbrev pub status_of : ReplyValue → ℕ
status_of (written status out) = status
status_of (noted status out notes) = status
status_of (told status err) = status

abbrev pub out_of : ReplyValue → Text
out_of (written status out) = out
out_of (noted status out notes) = out
out_of (told status err) = []

abbrev pub is_told : ReplyValue → Bool
is_told (written status out) = false
is_told (noted status out notes) = false
is_told (told status err) = true

-- nothing is told on standard error
abbrev pub is_quiet : ReplyValue → Bool
is_quiet (written status out) = true
is_quiet (noted status out notes) = false
is_quiet (told status err) = false

-- ---- replies

-- a fault of the input: its number, and what it is about, on a line, with the control characters of names escaped
abbrev pub fault_text : Text → Text → Text
fault_text number subject = escaped (number ++ codes " " ++ subject) ++ codes "\n"

abbrev pub fault_reply : Text → Text → ReplyValue
fault_reply number subject = told 3 (fault_text number subject)

-- an answer, and what is told beside it, if anything is
abbrev pub answer_noted : Text → ℕ → Text → ReplyValue
answer_noted [] status out = written status out
answer_noted (b ∷ notes) status out = noted status out (b ∷ notes)

-- the fault for which files are no package
abbrev pub refused_reply : FileFault → ReplyValue
refused_reply fault = fault_reply (fault_number fault) (fault_subject fault)

-- that a file of that name can't be read
abbrev pub unreadable_reply : Text → ReplyValue
unreadable_reply name = fault_reply (codes "read") name

-- what is wrong with a certificate, if anything
abbrev pub wrong_reply : SchemaValue → Option (Pair × RuleName) → ReplyValue
wrong_reply s None = written 0 (codes "yes\n")
wrong_reply s (Some wrong) = written 1 (wrong_text s wrong.0 wrong.1)

abbrev pub checked_reply : Text → SchemaValue → Result (Option (Pair × RuleName)) CertFault → ReplyValue
checked_reply name s (Ok wrong) = wrong_reply s wrong
checked_reply name s (Err fault) = fault_reply (cert_number fault) name

-- the text of a certificate in the newest format, or the fault for which its file is none
abbrev pub migrated_reply : Text → Result Text CertFault → ReplyValue
migrated_reply name (Ok text) = written 0 text
migrated_reply name (Err fault) = fault_reply (cert_number fault) name

-- the one of two urls that is on a side
abbrev pub on_side : Side → (derived base : Text) → Text
on_side Derived derived base = derived
on_side Base derived base = base

-- what comes of two profiles of which a certificate is to be derived: its text; or the pair that fails a rule; or the profile that isn't there,
-- or can't be used
abbrev pub derivation_reply : SchemaValue → (derived base : Text) → Derivation → ReplyValue
derivation_reply s derived base (derives c) = written 0 (text_of (written_by s c))
derivation_reply s derived base (fails pair rule) = written 1 (wrong_text s pair rule)
derivation_reply s derived base (missing side) = fault_reply (codes "D1") (on_side side derived base)
derivation_reply s derived base (unusable side) = fault_reply (codes "D2") (on_side side derived base)

-- where no certificate exists: the resource that was found, on a line; or, where none was, the pair that fails a rule
abbrev pub shown_reply : SchemaValue → (notes : Text) → Pair → RuleName → Option Text → ReplyValue
shown_reply s notes pair rule (Some bytes) = answer_noted notes 1 (bytes ++ codes "\n")
shown_reply s notes pair rule None = answer_noted notes 2 (wrong_text s pair rule)

-- what comes of two profiles where a resource is looked for, and perhaps found: that a certificate exists; or that none does; or, as where one is
-- to be derived, that a profile isn't there, or can't be used
abbrev pub counter_reply : SchemaValue → (notes derived base : Text) → (found : Option Text) → Derivation → ReplyValue
counter_reply s notes derived base found (derives c) = answer_noted notes 0 (codes "yes\n")
counter_reply s notes derived base found (fails pair rule) = shown_reply s notes pair rule found
counter_reply s notes derived base found (missing side) = derivation_reply s derived base (missing side)
counter_reply s notes derived base found (unusable side) = derivation_reply s derived base (unusable side)

-- of a certificate's bytes, whose file has that name
abbrev pub certificate_reply : Text → SchemaValue → Text → ReplyValue
certificate_reply name s bytes = checked_reply name s (answer_of (reading s bytes) s)
