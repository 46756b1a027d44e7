use Rattle.std.proofs.Common.{◌≡◌, drop}
use Rattle.std.specs.List.{find}
use Rattle.std.specs.Str.{bytes_eq}
use Rattle.fhir_nodes.proofs.slot_list.find_by_look.Given as goal

abbrev pub invariant-loop-slot : goal.invariant-loop-slot
invariant-loop-slot l = find (λ slot. bytes_eq l.name slot.name) (drop l.slot-index l.slots) ≡ find (λ slot. bytes_eq l.name slot.name) l.slots
