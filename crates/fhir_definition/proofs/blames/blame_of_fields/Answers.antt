use Rattle.std.proofs.Common.{ap, ◌∙◌}
use Rattle.std.specs.Option.{option_or}
use Rattle.fhir_elements.specs.declared.reason.Reason.TheVariants.{WrongField}
use Rattle.fhir_elements.specs.Causes.{blamed_reason}
use Rattle.fhir_definition.proofs.Blamed.{fields_found}
use Rattle.fhir_definition.proofs.blames.blame_of_fields.Goals as goal

pub returns-clause-reason : goal.returns-clause-reason
returns-clause-reason c =
    ap blamed_reason (c.or-2.ensures ∙ ap (λ x. option_or x c.blame_of_values.result) c.or.ensures)
    ∙ fields_found _ _ _ _ WrongField _ _ _ c.blame_of_head.ensures.reason c.first_of.ensures.reason c.blame_of_values.ensures.reason
