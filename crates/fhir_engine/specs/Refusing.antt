-- Why a run over a folder tells nothing, or not all of it.
use Rattle.std.specs.Prelude.{[], Option, None, Some, codes, string_bytes}
use Rattle.fhir_json.specs.Tree.{Text}
use Rattle.fhir_answers.specs.declared.reply.Status.{Status}
use Rattle.fhir_answers.specs.declared.reply.Status.TheVariants as statuses
use Rattle.fhir_answers.specs.Replying.{ReplyValue, written, noted, told}
use Rattle.fhir_engine.specs.declared.refusal.Refusal.{Refusal}
use Rattle.fhir_engine.specs.declared.refusal.Refusal.TheVariants.{Fault, Unwritten, NoMemory}

-- what is told of a fault
abbrev pub fault_told : ReplyValue → Text
fault_told (written status out) = []
fault_told (noted status out notes) = []
fault_told (told status err) = err

-- what is told of a reason
abbrev pub refusal_text : Refusal → Option Text
refusal_text (Fault text) = Some (string_bytes text)
refusal_text Unwritten = None
refusal_text NoMemory = Some (codes "no memory\n")

-- the status of each reason
abbrev pub refusal_status : Refusal → Status
refusal_status (Fault text) = statuses.Fault
refusal_status Unwritten = statuses.Unwritten
refusal_status NoMemory = statuses.NoMemory
