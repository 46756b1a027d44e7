use Rattle.fhir_schema.proofs.Stepping.{AreAfter}
use Rattle.fhir_schema.proofs.chains.places_at_end.Given as goal

abbrev pub invariant-loop-steps : goal.invariant-loop-steps
invariant-loop-steps l = AreAfter l.table l.places.items l.power.items l.steps

abbrev pub decreases-loop-steps : goal.decreases-loop-steps
decreases-loop-steps l = l.steps
