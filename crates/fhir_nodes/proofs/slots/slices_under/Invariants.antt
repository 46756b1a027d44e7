use Rattle.std.proofs.Common.{◌≡◌, map, take}
use Rattle.fhir_nodes.specs.Slots.{slice_at}
use Rattle.fhir_nodes.proofs.slots.slices_under.Given as goal

abbrev pub invariant-loop-place : goal.invariant-loop-place
invariant-loop-place l = l.slices.items ≡ map (slice_at l.elements) (take l.place-index l.places)
