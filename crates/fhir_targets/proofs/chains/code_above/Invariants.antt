use Rattle.std.proofs.Common.{length}
use Rattle.fhir_targets.specs.Chains.{code_at}
use Rattle.fhir_targets.proofs.Climbing.{Climbs}
use Rattle.fhir_targets.proofs.chains.code_above.Given as goal

abbrev pub invariant-loop-step : goal.invariant-loop-step
invariant-loop-step l = Climbs l.schema.definitions (code_at l.places) l.start (length l.schema.definitions) l._step l.place
