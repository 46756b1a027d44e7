use Rattle.std.proofs.Common.{◌≡◌, ◌++◌, drop}
use Rattle.fhir_overlay.specs.Overlay.{with_constraints}
use Rattle.fhir_overlay.specs.Noted.{AreNoted}
use Rattle.fhir_overlay.proofs.constraints.added.Given as goal

abbrev pub invariant-loop-constraint : goal.invariant-loop-constraint
invariant-loop-constraint l =
    AreNoted l.noted (l.constraints ++ l.added.items)
    × (with_constraints (l.constraints ++ l.added.items) (drop l.constraint-index l.more) ≡ with_constraints l.constraints l.more)
