use Rattle.std.proofs.Common.{false}
use Rattle.std.proofs.lemmas.Result.{IfOk-weaker}
use Rattle.fhir_conformance.specs.Conformance.{constant}
use Rattle.fhir_counter.proofs.Rootless.{conforms_not, nothing}
use Rattle.fhir_counter.proofs.counter.always_conforms.Goals as goal

pub returns-in-Ok-clause-judged : goal.returns-in-Ok-clause-judged
returns-in-Ok-clause-judged c = λ t reads. rw c.is_conforming.ensures (c.in-Ok.ensures.conforms t reads)

pub returns-in-Ok-clause-always : goal.returns-in-Ok-clause-always
returns-in-Ok-clause-always c = λ t reads yes. (
  c.in-Ok.ensures.always t reads (rw (← c.is_conforming.ensures) yes),
  c.in-Ok.ensures.constraints t reads (rw (← c.is_conforming.ensures) yes),
)

pub returns-in-Err-clause-judged : goal.returns-in-Err-clause-judged
returns-in-Err-clause-judged c = λ t reads.
    IfOk-weaker c.refused.result _ _
    (λ b denied. conforms_not c.args.schema.now (constant false) c.args.profile.now c.args.bytes.now t c.in-Err.fault b c.in-Err.ensures.refused denied.1 reads denied.0)
    c.refused.ensures

pub returns-in-Err-clause-always : goal.returns-in-Err-clause-always
returns-in-Err-clause-always c = λ t reads. IfOk-weaker c.refused.result _ _ (λ b denied is. nothing b denied.0 is) c.refused.ensures

pub returns-in-Err-clause-read : goal.returns-in-Err-clause-read
returns-in-Err-clause-read c = IfOk-weaker c.refused.result _ _ (λ b denied is. nothing b denied.0 is) c.refused.ensures
