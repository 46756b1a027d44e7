-- How the program ends: which status, and what an output holds then.
use Rattle.std.specs.Prelude.{◌≡◌, ℕ, List, false, Option, Result, Ok, Err}
use Rattle.std.specs.Io.KnownBytes.{Appends}
use Rattle.fhir_answers.specs.declared.reply.Status.{Status}
use Rattle.fhir_answers.specs.declared.reply.Status.TheVariants.{Yes, No, Open, Fault, Unwritten, Usage, NoMemory}
use Rattle.fhir_words.specs.declared.request.WordsFault.{WordsFault}
use Rattle.fhir_answers.specs.Replying.{ReplyValue, status_of, out_of, is_told}
use Rattle.fhir_words.specs.Requests.{InvocationValue}
use Rattle.fhir_engine.specs.Reading.{words_status}

-- The status is the reply's, and standard output, whose bytes before and after are these, holds what is to be written;
-- or the output failed, of a reply that is written there; or memory ran out.
abbrev pub HasEnded : Status → Option (List ℕ) → Option (List ℕ) → ReplyValue → Type 0
HasEnded Yes old new reply = (status_of reply ≡ 0) × Appends old new (out_of reply)
HasEnded No old new reply = (status_of reply ≡ 1) × Appends old new (out_of reply)
HasEnded Open old new reply = (status_of reply ≡ 2) × Appends old new (out_of reply)
HasEnded Fault old new reply = (status_of reply ≡ 3) × Appends old new (out_of reply)
HasEnded Unwritten old new reply = is_told reply ≡ false
HasEnded Usage old new reply = (status_of reply ≡ 4) × Appends old new (out_of reply)
HasEnded NoMemory old new reply = Unit {0}

-- the status of an answer that is told on standard error
abbrev pub told_status : Result InvocationValue WordsFault → Status
told_status (Ok asked) = Fault
told_status (Err fault) = words_status fault
