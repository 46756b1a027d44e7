use Rattle.std.proofs.Common.{◌≡◌, ◌∷◌, length}
use Rattle.fhir_positions.specs.Among.{AreAmong}
use Rattle.fhir_positions.proofs.nearest.positions_of_some.Given as goal

abbrev pub invariant-loop-stop : goal.invariant-loop-stop
invariant-loop-stop l = record { count : length l.found.items ≡ l.stop-index; among : AreAmong l.found.items (l.outermost ∷ l.all) }
