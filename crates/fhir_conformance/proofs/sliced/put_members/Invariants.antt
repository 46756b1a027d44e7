use Rattle.std.proofs.Common.{◌≡◌, ◌++◌, map, drop}
use Rattle.fhir_instance.specs.View.{item_of}
use Rattle.fhir_conformance.specs.Positions.{members}
use Rattle.fhir_conformance.specs.Asks.{child_ask}
use Rattle.fhir_conformance.specs.Views.{asks_seen}
use Rattle.fhir_conformance.proofs.sliced.put_members.Given as goal

abbrev pub invariant-loop-place : goal.invariant-loop-place
invariant-loop-place l =
    asks_seen l.asked.items ++ map (child_ask l.slice) (members l.schema (item_of l.item) l.slice (drop l.place-index l.places))
    ≡ asks_seen l.initial.asked.items ++ map (child_ask l.slice) (members l.schema (item_of l.item) l.slice l.places)
