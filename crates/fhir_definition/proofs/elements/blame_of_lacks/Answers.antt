use Rattle.std.proofs.Common.{Some, ap, ◌∙◌, arith}
use Rattle.fhir_elements.specs.declared.reason.Reason.TheVariants.{WrongField}
use Rattle.fhir_elements.specs.Causes.{reason_of}
use Rattle.fhir_definition.specs.Definition.{is_whole}
use Rattle.fhir_definition.proofs.Blamed.{fails_here}
use Rattle.fhir_definition.proofs.elements.blame_of_lacks.Goals as goal

pub returns-in-Some-clause-reason : goal.returns-in-Some-clause-reason
returns-in-Some-clause-reason c =
    ap (λ k. Some (reason_of k)) c.at.ensures.cause
    ∙ fails_here is_whole c.args.elements.now c.loop-place.place c.index-elements-place.result WrongField _ _ (omega arith)
    c.index-elements-place.is c.in-Some.ensures c.loop-place.invariant
