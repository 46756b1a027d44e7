use Rattle.std.proofs.Common.{◌≡◌, map, take}
use Rattle.fhir_definition.specs.Snapshot.{child_place}
use Rattle.fhir_definition.proofs.by_id.ElementsById.child_places.Given as goal

abbrev pub invariant-loop-element : goal.invariant-loop-element
invariant-loop-element l = l.places.items ≡ map (child_place l.self) (take l.element-index l.element-items)
