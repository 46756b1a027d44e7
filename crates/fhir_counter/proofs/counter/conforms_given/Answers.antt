use Rattle.std.proofs.lemmas.Result.{IfOk-weaker}
use Rattle.fhir_counter.proofs.Rootless.{nothing}
use Rattle.fhir_counter.proofs.counter.conforms_given.Goals as goal

pub returns-in-Ok-clause-conforms : goal.returns-in-Ok-clause-conforms
returns-in-Ok-clause-conforms c = λ t reads yes. (
  c.in-Ok.ensures.always t reads (rw (← c.conforms_as_given.ensures) yes),
  c.in-Ok.ensures.constraints t reads (rw (← c.conforms_as_given.ensures) yes),
)

pub returns-in-Err-clause-conforms : goal.returns-in-Err-clause-conforms
returns-in-Err-clause-conforms c = λ t reads. IfOk-weaker c.refused.result _ _ (λ b denied is. nothing b denied.0 is) c.refused.ensures

pub returns-in-Err-clause-read : goal.returns-in-Err-clause-read
returns-in-Err-clause-read c = IfOk-weaker c.refused.result _ _ (λ b denied is. nothing b denied.0 is) c.refused.ensures
