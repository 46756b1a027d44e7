use Rattle.fhir_schema.proofs.Climbing.{Counted}
use Rattle.fhir_schema.proofs.lineage.Lineage.steps.Given as goal

abbrev pub invariant-loop-i : goal.invariant-loop-i
invariant-loop-i l = Counted l.self l.start l.i l.last

abbrev pub decreases-loop-i : goal.decreases-loop-i
decreases-loop-i l = l.i
