use Rattle.std.proofs.Common.{◌≡◌, ℕ, List, Option, sym, ap, ◌∙◌, arith}
use Rattle.fhir_answers.specs.declared.reply.Status.{Status}
use Rattle.fhir_answers.specs.declared.reply.Status.TheVariants.{Yes, No, Open, Fault, Unwritten, Usage, NoMemory}
use Rattle.fhir_answers.specs.Replying.{ReplyValue, status_of}
use Rattle.fhir_answers.specs.Status.{code_of}
use Rattle.fhir_engine.specs.Ending.{HasEnded}
use Rattle.fhirprof.proofs.code_of.Goals as goal

-- what ends with code 1 is a no
ends_in_no : (status : Status) (old new : Option (List ℕ)) (reply : ReplyValue) → code_of status ≡ 1 → HasEnded status old new reply → status_of reply ≡ 1
ends_in_no Yes old new reply one ended = absurd cc
ends_in_no No old new reply one ended = ended.0
ends_in_no Open old new reply one ended = absurd cc
ends_in_no Fault old new reply one ended = absurd cc
ends_in_no Unwritten old new reply one ended = absurd cc
ends_in_no Usage old new reply one ended = absurd cc
ends_in_no NoMemory old new reply one ended = absurd cc

not_memory : (status : Status) → code_of status ≡ 1 → status ≡ NoMemory → ⊥
not_memory status one is = omega (arith, sym one ∙ ap code_of is)

pub returns-clause-no : goal.returns-clause-no
returns-clause-no g c one =
    let code : code_of c.run.result ≡ 1 = sym c.from.ensures ∙ one in
    let said = c.run.ensures.told (not_memory c.run.result code) in
    (said.0, said.1, said.2, said.3, ends_in_no c.run.result _ _ said.1 code said.4)
