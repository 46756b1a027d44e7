-- How the program ends.
use Rattle.std.proofs.Common.{◌≡◌, ℕ, true, false, leb, Option, Result, Ok, Err, List, sym, ap, ◌∙◌}
use Rattle.std.specs.Io.KnownBytes.{Appends}
use Rattle.std.proofs.lemmas.Bool.{false≢true}
use Rattle.fhir_json.specs.Tree.{Text}
use Rattle.fhir_package.specs.declared.folder.FolderFault.{FolderFault}
use Rattle.fhir_package.specs.ReadFiles.{ReadFiles}
use Rattle.fhir_words.specs.declared.request.WordsFault.{WordsFault}
use Rattle.fhir_words.specs.declared.request.WordsFault.TheVariants as words
use Rattle.fhir_words.specs.Requests.{RequestValue, InvocationValue, request, version}
use Rattle.fhir_answers.specs.declared.reply.Status.{Status}
use Rattle.fhir_answers.specs.declared.reply.Status.TheVariants.{Yes, No, Open, Fault, Unwritten, Usage, NoMemory}
use Rattle.fhir_answers.specs.Replying.{ReplyValue, status_of, out_of, is_told}
use Rattle.fhir_answers.specs.Status.{code_of}
use Rattle.fhir_engine.specs.Answering.{RepliesTo, RepliesFor}
use Rattle.fhir_engine.specs.Ending.{HasEnded}
use Rattle.answer_laws.specs.Manual.{is_decided}
use Rattle.answer_laws.proofs.Replying.{told_faults}

module _ (files : List (Option Text)) (reply : ReplyValue) (told : is_told reply ≡ true) where
  asked_errors : (q : RequestValue) (read : Result ReadFiles FolderFault) → RepliesTo q read files reply → leb 3 (status_of reply) ≡ true
  asked_errors q (Ok read) is = ap (leb 3) (told_faults q is.0 files reply is.2 told)
  asked_errors q (Err fault) is = ap (λ r. leb 3 (status_of r)) is

  pub errors : (asked : Result InvocationValue WordsFault) (read : Result ReadFiles FolderFault) → RepliesFor asked read files reply
      → leb 3 (status_of reply) ≡ true
  errors (Ok (request q)) read is = asked_errors q read is
  errors (Ok version) read is = absurd (false≢true (sym (ap is_told is) ∙ told))
  errors (Err words.Usage) read is = ap (λ r. leb 3 (status_of r)) is
  errors (Err words.NoMemory) read is = ap (λ r. leb 3 (status_of r)) is

module _ (old new : Option (List ℕ)) (reply : ReplyValue) where
  pub ended : (status : Status) → HasEnded status old new reply → is_decided status ≡ true → code_of status ≡ status_of reply
  ended Yes h decided = sym h.0
  ended No h decided = sym h.0
  ended Open h decided = sym h.0
  ended Fault h decided = sym h.0
  ended Unwritten h decided = absurd (false≢true decided)
  ended Usage h decided = sym h.0
  ended NoMemory h decided = absurd (false≢true decided)

  pub wrote : (status : Status) → HasEnded status old new reply → is_decided status ≡ true → Appends old new (out_of reply)
  wrote Yes h decided = h.1
  wrote No h decided = h.1
  wrote Open h decided = h.1
  wrote Fault h decided = h.1
  wrote Unwritten h decided = absurd (false≢true decided)
  wrote Usage h decided = h.1
  wrote NoMemory h decided = absurd (false≢true decided)
