use Rattle.std.proofs.Common.{◌+◌, ◌*◌}
use Rattle.fhir_demands.proofs.settling.+settling.Given as goal

abbrev pub decreases-settle_within : goal.decreases-settle_within
decreases-settle_within l = 8 * l.levels

abbrev pub decreases-settle_both : goal.decreases-settle_both
decreases-settle_both l = 8 * l.levels + 1

abbrev pub decreases-settle_some : goal.decreases-settle_some
decreases-settle_some l = 8 * l.levels + 1

abbrev pub decreases-settle_implied : goal.decreases-settle_implied
decreases-settle_implied l = 8 * l.levels + 1

abbrev pub decreases-settle_same : goal.decreases-settle_same
decreases-settle_same l = 8 * l.levels + 1

abbrev pub decreases-settle_compared : goal.decreases-settle_compared
decreases-settle_compared l = 8 * l.levels + 2

abbrev pub decreases-settle_binary : goal.decreases-settle_binary
decreases-settle_binary l = 8 * l.levels + 3
