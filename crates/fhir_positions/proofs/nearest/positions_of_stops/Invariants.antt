use Rattle.std.proofs.Common.{◌∷◌}
use Rattle.fhir_positions.specs.Among.{AreAmong}
use Rattle.fhir_positions.proofs.nearest.positions_of_stops.Given as goal

abbrev pub invariant-loop-stop : goal.invariant-loop-stop
invariant-loop-stop l = AreAmong l.all.items (l.outermost ∷ l.values)
