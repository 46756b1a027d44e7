use Rattle.std.proofs.Common.{◌≡◌, ◌++◌, drop}
use Rattle.std.specs.List.{flat_map}
use Rattle.fhir_cert_check.specs.Asked.{slot_asked}
use Rattle.fhir_cert_check.proofs.asked.put_slots.Given as goal

abbrev pub invariant-loop-slot : goal.invariant-loop-slot
invariant-loop-slot l =
    l.asked.items ++ flat_map (slot_asked l.schema l.nodes.derived l.nodes.base) (drop l.slot-index l.slot-items)
    ≡ l.initial.asked.items ++ flat_map (slot_asked l.schema l.nodes.derived l.nodes.base) l.slot-items
