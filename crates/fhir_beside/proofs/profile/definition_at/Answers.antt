use Rattle.std.proofs.Common.{ap, ◌∙◌}
use Rattle.std.specs.List.{slice_get}
use Rattle.fhir_schema.specs.Schemas.{SchemaValue}
use Rattle.fhir_definition.specs.Definition.{Definition}
use Rattle.std.proofs.Common.{List}
use Rattle.fhir_beside.proofs.Standing.{definition_there}
use Rattle.fhir_beside.proofs.profile.definition_at.Goals as goal

pub returns : goal.returns
returns c = λ p e.
    c.nth.ensures
    ∙ ap (λ (ds : List Definition). slice_get ds c.args.place) (c.definitions.ensures ∙ ap (λ (s : SchemaValue). s.definitions) e)
    ∙ definition_there p.structure_definitions c.args.place
