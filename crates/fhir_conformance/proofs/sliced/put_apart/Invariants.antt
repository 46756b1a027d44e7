use Rattle.std.proofs.Common.{◌≡◌, ◌++◌, map, take}
use Rattle.fhir_conformance.specs.Asks.{apart_ask}
use Rattle.fhir_conformance.specs.Views.{asks_seen}
use Rattle.fhir_conformance.proofs.sliced.put_apart.Given as goal

abbrev pub invariant-loop-place : goal.invariant-loop-place
invariant-loop-place l =
    asks_seen l.asked.items ≡ asks_seen l.initial.asked.items ++ map (apart_ask l.node) (take l.place-index l.places)
