use Rattle.std.proofs.Common.{◌≡◌, ◌++◌, take}
use Rattle.std.specs.List.{flat_map}
use Rattle.fhir_instance.specs.View.{item_of}
use Rattle.fhir_conformance.specs.Asks.{slice_asks}
use Rattle.fhir_conformance.specs.Views.{asks_seen}
use Rattle.fhir_conformance.proofs.sliced.put_slices.Given as goal

abbrev pub invariant-loop-slice : goal.invariant-loop-slice
invariant-loop-slice l =
    asks_seen l.asked.items ≡ asks_seen l.initial.asked.items ++ flat_map (slice_asks l.schema (item_of l.item) l.name l.places l.node) (take l.slice-index l.slices)
