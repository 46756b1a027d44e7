use Rattle.std.proofs.Common.{◌≤◌, length}
use Rattle.fhir_instance.proofs.resource.place_of.Given as goal

abbrev pub invariant-loop-i : goal.invariant-loop-i
invariant-loop-i l = l.i ≤ length l.misfit.steps.items

abbrev pub decreases-loop-i : goal.decreases-loop-i
decreases-loop-i l = l.i
