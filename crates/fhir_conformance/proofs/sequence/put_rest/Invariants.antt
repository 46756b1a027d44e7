use Rattle.std.proofs.Common.{◌≡◌, ◌++◌, map, drop}
use Rattle.fhir_instance.specs.View.{item_of}
use Rattle.fhir_conformance.specs.Asks.{rest_ask, behind_rest}
use Rattle.fhir_conformance.specs.Standing.{rest_asks}
use Rattle.fhir_conformance.specs.Views.{asks_seen}
use Rattle.fhir_conformance.proofs.sequence.put_rest.Given as goal

abbrev pub invariant-loop-place : goal.invariant-loop-place
invariant-loop-place l =
    asks_seen l.asked.items ++ rest_asks l.schema (item_of l.item) l.node l.is_rest (drop l.place-index l.places)
    ≡ asks_seen l.initial.asked.items ++ map (rest_ask l.node) (behind_rest l.schema (item_of l.item) l.node l.places)
