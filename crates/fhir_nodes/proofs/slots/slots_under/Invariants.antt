use Rattle.std.proofs.Common.{◌≡◌, take}
use Rattle.fhir_nodes.specs.Slots.{slots_under}
use Rattle.fhir_nodes.proofs.slots.slots_under.Given as goal

abbrev pub invariant-loop-place : goal.invariant-loop-place
invariant-loop-place l = l.slots.items ≡ slots_under l.table l.definition (take l.place-index l.places)
