use Rattle.std.proofs.Common.{map}
use Rattle.fhir_schema.proofs.Climbing.{AreDoubled}
use Rattle.fhir_schema.proofs.lineage.Lineage.of.Given as goal

abbrev pub invariant-loop-left : goal.invariant-loop-left
invariant-loop-left l = AreDoubled l.table (map (λ v. v.items) l.powers.items) l.power.items l.left

abbrev pub decreases-loop-left : goal.decreases-loop-left
decreases-loop-left l = l.left
