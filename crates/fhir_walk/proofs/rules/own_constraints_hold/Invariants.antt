use Rattle.std.proofs.Common.{◌≡◌, map, ◌-◌, IsTrue}
use Rattle.std.specs.List.{range_with_len}
use Rattle.fhir_instance.specs.View.{item_of}
use Rattle.fhir_conformance.specs.Asks.{constraint_ask, own_constraint_asks}
use Rattle.fhir_conformance.specs.Conformance.{Around}
use Rattle.fhir_walk.specs.Walks.{pass_all, settled_pass}
use Rattle.fhir_walk.proofs.rules.own_constraints_hold.Given as goal

abbrev pub invariant-loop-position : goal.invariant-loop-position
invariant-loop-position l =
    (here : Around) → here.nearest ≡ item_of l.around → IsTrue (settled_pass l.schema here (item_of l.item) l.settled)
    → pass_all l.schema here (item_of l.item) (own_constraint_asks l.schema l.node)
    ≡ pass_all l.schema here (item_of l.item) (map (constraint_ask l.node) (range_with_len l.position (l.position-end - l.position)))
