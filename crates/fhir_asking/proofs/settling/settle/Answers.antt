use Rattle.fhir_asking.proofs.Tables.{extends_both}
use Rattle.fhir_asking.proofs.Turning.{waits_on}
use Rattle.fhir_asking.proofs.settling.settle.Goals as goal

pub turns-preserved : goal.turns-preserved
turns-preserved g c =
    let next = waits_on (g.S.Asks.asking c.args.asks.now) c.turns.table c.turn.new.table c.turns.waiting c.turn.new.waiting c.in_ok-turn.field-0 c.if-not-branch.false c.in_ok-turn.ensures.turns in
    record {
      holds = c.turn.ensures.grows.holds;
      extends = extends_both c.args.table.now c.turns.table c.turn.new.table c.turns.invariant.extends c.turn.ensures.grows.extends;
      waits = next.waits;
      bottom = next.bottom c.args.name.now c.turns.invariant.bottom;
    }
