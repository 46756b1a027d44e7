use Rattle.std.proofs.Common.{◌≡◌, None, sym, subst, ◌∙◌, IsTrue}
use Rattle.std.specs.Prelude.{◌↔◌}
use Rattle.fhir_json.specs.Memory.{Gives}
use Rattle.fhir_cert_check.specs.Rules.{failing_rule, is_local}
use Rattle.fhir_cert_check.specs.Checking.{is_among}
use Rattle.fhir_cert_check.specs.Views.{rule_seen}
use Rattle.fhir_cert_check.proofs.Certified.{local_at, fails_none}
use Rattle.fhir_cert_check.proofs.Promised.{same_set, on_given}
use Rattle.fhir_cert_check.proofs.checking.first_failing.Goals as goal

pub returns-clause-first : goal.returns-clause-first
returns-clause-first c =
    subst (λ pairs. Gives rule_seen c.failing.result (failing_rule pairs c.args.schema.now c.args.pair))
    (same_set c.in_ok-pairs.pairs.set c.args.certificate.now c.in_ok-pairs.ensures.same) c.failing.ensures

pub returns-clause-right : goal.returns-clause-right
returns-clause-right c =
    let s = c.args.schema.now in
    let pairs = is_among c.args.certificate.now in
    on_given rule_seen c.failing.result (failing_rule pairs s c.args.pair)
    (λ rule. (rule_seen rule ≡ None) ↔ IsTrue (is_local pairs s c.args.pair))
    (λ rule e. (λ none. local_at s pairs c.args.pair (sym e ∙ none), λ local. e ∙ fails_none s pairs c.args.pair local))
    (subst (λ pairs. Gives rule_seen c.failing.result (failing_rule pairs s c.args.pair))
    (same_set c.in_ok-pairs.pairs.set c.args.certificate.now c.in_ok-pairs.ensures.same) c.failing.ensures)
