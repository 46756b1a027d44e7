use Rattle.std.proofs.Common.{◌≡◌}
use Rattle.fhir_package.specs.Surveying.{put_each}
use Rattle.fhir_package.proofs.survey.Survey.put_each.Given as goal

abbrev pub invariant-loop-definition : goal.invariant-loop-definition
invariant-loop-definition l =
    put_each l.file l.fn.definitions.items l.fn.self ≡ put_each l.file l.definition-iterator.rest.items l.self
