use Rattle.std.proofs.Common.{ap}
use Rattle.fhir_answers.specs.Replying.{ReplyValue, is_told}
use Rattle.fhir_compare_engine.proofs.running.told.Goals as goal

pub returns : goal.returns
returns c = ap (λ (r : ReplyValue). is_told r) c.in_ok-reply.ensures
