use Rattle.std.proofs.Common.{IsTrue, arith}
use Rattle.std.proofs.lemmas.Result.{IfOk-weaker}
use Rattle.fhir_compare.proofs.ways.shows_by.Goals as goal

pub returns : goal.returns
returns c =
    let yes : IsTrue c.in_ok-always_conforms.field-0 = grind arith in
    let it = c.in_ok-always_conforms.ensures.read yes in
    IfOk-weaker c.never_conforms.result _ _
    (λ v never violates. (it.0, it.1, c.in_ok-always_conforms.ensures.always it.0 it.1 yes, never violates))
    (c.never_conforms.ensures.never it.0 it.1)
