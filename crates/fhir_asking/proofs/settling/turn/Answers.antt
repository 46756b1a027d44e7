use Rattle.std.proofs.Common.{string_bytes, sym, ap, ◌∙◌}
use Rattle.fhir_asking.specs.Asking.{run, known}
use Rattle.fhir_asking.specs.Settling.{top_of}
use Rattle.fhir_asking.specs.Steps.{step_seen}
use Rattle.fhir_asking.proofs.Chains.{needs, run_wants}
use Rattle.fhir_asking.proofs.settling.turn.Goals as goal

pub wait-requires-clause-needs : goal.wait-requires-clause-needs
wait-requires-clause-needs g c =
    needs (g.S.Asks.asking c.args.asks.now) c.args.table.now (top_of c.args.waiting.now) (string_bytes c.in-Wants.next) c.requires.holds
    (ap (λ t. run (known c.args.table.now) (g.S.Asks.asking c.args.asks.now t)) (sym c.top.ensures) ∙ sym c.in_ok-answer.ensures ∙ ap step_seen c.in-Wants.is)

pub wait-requires-clause-unknown : goal.wait-requires-clause-unknown
wait-requires-clause-unknown g c =
    run_wants c.args.table.now (string_bytes c.in-Wants.next) (g.S.Asks.asking c.args.asks.now c.top.result.now)
    (sym c.in_ok-answer.ensures ∙ ap step_seen c.in-Wants.is)
