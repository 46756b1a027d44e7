use Rattle.std.proofs.Common.{◌≡◌, ◌++◌, take}
use Rattle.std.specs.List.{flat_map}
use Rattle.fhir_instance.specs.View.{item_of}
use Rattle.fhir_conformance.specs.Asks.{slot_asks}
use Rattle.fhir_conformance.specs.Views.{asks_seen}
use Rattle.fhir_conformance.proofs.asking.put_slots.Given as goal

abbrev pub invariant-loop-slot : goal.invariant-loop-slot
invariant-loop-slot l =
    asks_seen l.asked.items ≡ asks_seen l.initial.asked.items ++ flat_map (slot_asks l.schema (item_of l.item) l.node) (take l.slot-index l.slots)
