use Rattle.std.proofs.Common.{is_none, refl, ap, ◌∙◌}
use Rattle.fhir_findings.proofs.Pushed.{fresh_is, first_pushed}
use Rattle.fhir_unread.specs.Seen.{saying_seen, sayings_seen}
use Rattle.fhir_unread.proofs.saying.push_if_first.Goals as goal

pub returns-clause-pushed : goal.returns-clause-pushed
returns-clause-pushed c = λ before h.
    first_pushed (λ y. y.human) c.args.seen.now before (saying_seen c.args.saying.now) c.args.saying.now.human.now c.is_none-is_new.result
    (sayings_seen c.args.into.now.items) (sayings_seen c.push_if.new.into.items) refl
    (fresh_is c.get.result c.is_none-is_new.result c.is_none-is_new.ensures ∙ ap is_none c.get.ensures) c.in_ok-push_if.ensures h
