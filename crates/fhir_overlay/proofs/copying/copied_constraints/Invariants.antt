use Rattle.std.proofs.Common.{◌≡◌, take}
use Rattle.fhir_overlay.proofs.copying.copied_constraints.Given as goal

abbrev pub invariant-loop-constraint : goal.invariant-loop-constraint
invariant-loop-constraint l = l.all.items ≡ take l.constraint-index l.constraints
