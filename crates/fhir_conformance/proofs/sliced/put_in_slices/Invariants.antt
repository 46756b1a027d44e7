use Rattle.std.proofs.Common.{◌≡◌, ◌++◌, map, take}
use Rattle.fhir_conformance.specs.Asks.{in_slice_ask}
use Rattle.fhir_conformance.specs.Views.{asks_seen}
use Rattle.fhir_conformance.proofs.sliced.put_in_slices.Given as goal

abbrev pub invariant-loop-place : goal.invariant-loop-place
invariant-loop-place l =
    asks_seen l.asked.items ≡ asks_seen l.initial.asked.items ++ map (in_slice_ask l.node) (take l.place-index l.places)
