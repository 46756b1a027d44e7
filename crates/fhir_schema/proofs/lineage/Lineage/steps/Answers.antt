use Rattle.std.proofs.Common.{◌-◌}
use Rattle.fhir_schema.proofs.Climbing.{counted, one_up, at_shown}
use Rattle.fhir_schema.proofs.lineage.Lineage.steps.Goals as goal

pub climb_once-last-requires : goal.climb_once-last-requires
climb_once-last-requires c =
    counted c.args.self.now c.args.start c.loop-i.i c.loop-i.last c.loop-i-test.true c.loop-i.invariant c.requires

pub loop-i-preserved : goal.loop-i-preserved
loop-i-preserved c =
    one_up c.args.self.now c.deref.result.now c.args.start c.loop-i.i c.loop-i.last c.climb_once-last.result c.loop-i-test.true
    (at_shown (λ v. v.items) c.self.inside.powers.items c.args.self.now (c.loop-i.i - 1) c.index-power.result.now c.deref.result.now
    c.self.view_is c.index-power.ensures c.deref.ensures.value)
    c.climb_once-last.ensures c.loop-i.invariant
