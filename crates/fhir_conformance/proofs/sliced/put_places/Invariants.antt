use Rattle.std.proofs.Common.{◌≡◌, ◌++◌, map, take}
use Rattle.fhir_conformance.specs.Asks.{child_ask}
use Rattle.fhir_conformance.specs.Views.{asks_seen}
use Rattle.fhir_conformance.proofs.sliced.put_places.Given as goal

abbrev pub invariant-loop-place : goal.invariant-loop-place
invariant-loop-place l =
    asks_seen l.asked.items ≡ asks_seen l.initial.asked.items ++ map (child_ask l.entry) (take l.place-index l.places)
