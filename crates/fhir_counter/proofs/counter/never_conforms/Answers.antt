use Rattle.std.proofs.lemmas.Result.{IfOk-weaker}
use Rattle.fhir_counter.proofs.Rootless.{violates_not, nothing}
use Rattle.fhir_counter.proofs.counter.never_conforms.Goals as goal

pub returns-in-Ok-clause-judged : goal.returns-in-Ok-clause-judged
returns-in-Ok-clause-judged c = λ t reads some. rw c.is_violating.ensures (c.in-Ok.ensures.violates t reads)

pub returns-in-Ok-clause-never : goal.returns-in-Ok-clause-never
returns-in-Ok-clause-never c = λ t reads yes. c.in-Ok.ensures.never t reads (rw (← c.is_violating.ensures) yes)

pub returns-in-Err-clause-judged : goal.returns-in-Err-clause-judged
returns-in-Err-clause-judged c = λ t reads some.
    IfOk-weaker c.refused.result _ _
    (λ b denied. violates_not c.args.schema.now c.args.profile.now c.args.bytes.now t c.in-Err.fault c.in-Err.ensures.refused denied.1 reads some)
    c.refused.ensures

pub returns-in-Err-clause-never : goal.returns-in-Err-clause-never
returns-in-Err-clause-never c = λ t reads. IfOk-weaker c.refused.result _ _ (λ b denied is. nothing b denied.0 is) c.refused.ensures

pub returns-in-Err-clause-there : goal.returns-in-Err-clause-there
returns-in-Err-clause-there c = IfOk-weaker c.refused.result _ _ (λ b denied is. nothing b denied.0 is) c.refused.ensures

pub returns-in-Err-clause-read : goal.returns-in-Err-clause-read
returns-in-Err-clause-read c = IfOk-weaker c.refused.result _ _ (λ b denied is. nothing b denied.0 is) c.refused.ensures
