use Rattle.std.proofs.Common.{string_bytes, sym, ap, ◌∙◌}
use Rattle.fhir_asking.specs.Asking.{run, known}
use Rattle.fhir_asking.proofs.Lists.{top_is}
use Rattle.fhir_asking.proofs.Tables.{grows}
use Rattle.fhir_asking.proofs.Turning.{top_unknown, turn_known}
use Rattle.fhir_asking.proofs.settling.know.Goals as goal

pub put-requires : goal.put-requires
put-requires g c =
    top_unknown (g.S.Asks.asking c.args.asks.now) c.args.table.now c.args.waiting.now c.pop.new.self (string_bytes c.in-Some.top) c.in-Some.ensures.names c.requires.waits

pub returns-clause-grows : goal.returns-clause-grows
returns-clause-grows g c =
    let is = top_is c.args.waiting.now c.pop.new.self (string_bytes c.in-Some.top) c.in-Some.ensures.names in
    grows (g.S.Asks.asking c.args.asks.now) c.args.table.now c.put.new.self (string_bytes c.in-Some.top) c.args.answer c.requires.holds
    (ap (λ t. run (known c.args.table.now) (g.S.Asks.asking c.args.asks.now t)) (sym is) ∙ c.requires.answer) c.in_ok-put.ensures.learns

pub returns-clause-turns : goal.returns-clause-turns
returns-clause-turns g c =
    turn_known (g.S.Asks.asking c.args.asks.now) c.args.table.now c.put.new.self c.args.waiting.now c.pop.new.self (string_bytes c.in-Some.top) c.args.answer c.in-Some.ensures.names c.requires.waits c.in-Some.ensures.apart c.in_ok-put.ensures.learns c.in_ok-put.ensures.longer c.put.ensures.room
