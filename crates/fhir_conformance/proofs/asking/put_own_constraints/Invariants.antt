use Rattle.std.proofs.Common.{◌≡◌, ◌++◌, map}
use Rattle.std.specs.List.{range_with_len}
use Rattle.fhir_conformance.specs.Asks.{constraint_ask}
use Rattle.fhir_conformance.specs.Views.{asks_seen}
use Rattle.fhir_conformance.proofs.asking.put_own_constraints.Given as goal

abbrev pub invariant-loop-position : goal.invariant-loop-position
invariant-loop-position l =
    asks_seen l.asked.items ≡ asks_seen l.initial.asked.items ++ map (constraint_ask l.node) (range_with_len 0 l.position)
