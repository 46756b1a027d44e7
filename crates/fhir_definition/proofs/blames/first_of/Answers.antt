use Rattle.std.proofs.Common.{Some, ap, ◌∙◌, arith}
use Rattle.fhir_elements.specs.Causes.{reason_of}
use Rattle.fhir_definition.proofs.Blamed.{found_here}
use Rattle.fhir_definition.proofs.blames.first_of.Goals as goal

pub returns-in-Some-clause-reason : goal.returns-in-Some-clause-reason
returns-in-Some-clause-reason c =
    ap (λ k. Some (reason_of k)) c.at.ensures.cause
    ∙ found_here c.args.reason c.args.causes.now c.loop-place.place _ _ _ (omega arith) c.in-Some.ensures c.loop-place.invariant
