use Rattle.fhir_definition.specs.Snapshot.{child_place, slice_place}
use Rattle.fhir_definition.proofs.Under.{are_under_each}
use Rattle.fhir_definition.proofs.laws.children_and_slices.Goals as goal

pub returns : goal.returns
returns c = record { children = λ es. are_under_each (child_place es) es; slices = λ es. are_under_each (slice_place es) es }
