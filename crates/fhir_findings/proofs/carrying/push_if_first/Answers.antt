use Rattle.std.proofs.Common.{is_none, ap, ◌∙◌}
use Rattle.fhir_findings.specs.Carrying.{text_of}
use Rattle.fhir_findings.specs.Views.{carrier_seen, carriers_seen}
use Rattle.fhir_findings.proofs.Pushed.{fresh_is, first_pushed}
use Rattle.fhir_findings.proofs.carrying.push_if_first.Goals as goal

pub returns-clause-pushed : goal.returns-clause-pushed
returns-clause-pushed c = λ before h.
    first_pushed text_of c.args.seen.now before (carrier_seen c.args.carrier.now) c.as_str.result.now c.is_none-is_new.result
    (carriers_seen c.args.into.now.items) (carriers_seen c.push_if.new.into.items) (c.as_str.ensures.value ∙ c.in_ok-text.ensures)
    (fresh_is c.get.result c.is_none-is_new.result c.is_none-is_new.ensures ∙ ap is_none c.get.ensures) c.in_ok-push_if.ensures h
