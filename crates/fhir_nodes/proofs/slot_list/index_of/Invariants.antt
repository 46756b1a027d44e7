use Rattle.std.proofs.Common.{map, take}
use Rattle.fhir_names.specs.Places.{Finds}
use Rattle.fhir_nodes.proofs.slot_list.index_of.Given as goal

abbrev pub invariant-loop-place : goal.invariant-loop-place
invariant-loop-place l = Finds l.names (map (λ slot. slot.name) (take l.place l.slots))
