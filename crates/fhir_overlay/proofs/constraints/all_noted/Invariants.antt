use Rattle.std.proofs.Common.{take}
use Rattle.fhir_overlay.specs.Noted.{AreNoted}
use Rattle.fhir_overlay.proofs.constraints.all_noted.Given as goal

abbrev pub invariant-loop-constraint : goal.invariant-loop-constraint
invariant-loop-constraint l = AreNoted l.noted (take l.constraint-index l.constraints)
