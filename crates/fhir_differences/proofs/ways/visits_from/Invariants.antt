use Rattle.std.proofs.Common.{◌-◌, ◌^◌}
use Rattle.fhir_differences.proofs.ways.visits_from.Given as goal

abbrev pub decreases-loop-at : goal.decreases-loop-at
decreases-loop-at l = 2 ^ 64 - l.at
