use Rattle.std.proofs.Common.{ap, ◌∙◌}
use Rattle.fhir_elements.specs.declared.reason.Reason.TheVariants.{WrongField}
use Rattle.fhir_elements.specs.Causes.{blamed_reason}
use Rattle.fhir_definition.proofs.Blamed.{both_hold}
use Rattle.fhir_definition.proofs.blames.blame_of_values.Goals as goal

pub returns-clause-reason : goal.returns-clause-reason
returns-clause-reason c =
    ap blamed_reason c.or.ensures
    ∙ both_hold _ _ WrongField _ _ c.blame_of_lacks.ensures.reason c.blame_of_bounds.ensures.reason
