use Rattle.std.proofs.Common.{◌≡◌, ◌++◌, [], drop}
use Rattle.fhir_instance.specs.View.{item_of}
use Rattle.fhir_conformance.specs.Asks.{order_asks}
use Rattle.fhir_conformance.specs.Standing.{found_asks}
use Rattle.fhir_conformance.specs.Views.{asks_seen}
use Rattle.fhir_conformance.proofs.sequence.put_children.Given as goal

abbrev pub invariant-loop-place : goal.invariant-loop-place
invariant-loop-place l =
    asks_seen l.asked.items ++ found_asks l.schema (item_of l.item) l.node l.standing.items (drop l.place-index l.places)
    ≡ asks_seen l.initial.asked.items ++ order_asks l.schema (item_of l.item) l.node [] l.places
