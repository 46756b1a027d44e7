use Rattle.std.proofs.Common.{◌≡◌, true, string_bytes, sym, ap, ◌∙◌}
use Rattle.std.specs.List.{list_any}
use Rattle.std.specs.Str.{bytes_eq}
use Rattle.fhir_asking.proofs.Turning.{turn_waits, turn_stuck}
use Rattle.fhir_asking.proofs.settling.wait.Goals as goal

pub returns-then-has : goal.returns-then-has
returns-then-has g c =
    let told : true ≡ list_any (bytes_eq c.as_str.result.now) c.args.waiting.now = c.if-has.ensures in
    turn_stuck (g.S.Asks.asking c.args.asks.now) c.args.table.now c.args.waiting.now (string_bytes c.args.next) c.requires.some c.requires.waits c.requires.needs
    (ap (λ t. list_any (bytes_eq t) c.args.waiting.now) (sym c.as_str.ensures.value) ∙ sym told)

pub returns : goal.returns
returns g c =
    turn_waits (g.S.Asks.asking c.args.asks.now) c.args.table.now c.args.waiting.now c.push.new.self (string_bytes c.args.next) c.requires.some c.requires.waits c.requires.needs c.requires.unknown c.in_ok-push.ensures.names c.in_ok-push.ensures.room
