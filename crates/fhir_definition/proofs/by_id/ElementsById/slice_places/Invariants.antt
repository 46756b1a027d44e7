use Rattle.std.proofs.Common.{◌≡◌, map, take}
use Rattle.fhir_definition.specs.Snapshot.{slice_place}
use Rattle.fhir_definition.proofs.by_id.ElementsById.slice_places.Given as goal

abbrev pub invariant-loop-element : goal.invariant-loop-element
invariant-loop-element l = l.places.items ≡ map (slice_place l.self) (take l.element-index l.element-items)
