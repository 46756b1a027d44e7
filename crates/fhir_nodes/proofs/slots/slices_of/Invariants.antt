use Rattle.std.proofs.Common.{◌≡◌, map, take}
use Rattle.fhir_definition.specs.Views.{lists_in}
use Rattle.fhir_nodes.specs.Slots.{slice_at}
use Rattle.fhir_nodes.proofs.slots.slices_of.Given as goal

abbrev pub invariant-loop-places : goal.invariant-loop-places
invariant-loop-places l = l.all.items ≡ map (λ places. map (slice_at l.definition.elements) places) (lists_in (take l.places-index l.places-items))
