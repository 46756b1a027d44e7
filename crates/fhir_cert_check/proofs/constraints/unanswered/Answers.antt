use Rattle.std.proofs.Common.{◌≡◌, true, false, ap, sym, ◌∙◌}
use Rattle.std.specs.List.{flat_map}
use Rattle.std.specs.Option.{is_some}
use Rattle.fhir_elements.specs.Tests.{first_of}
use Rattle.fhir_cert_check.specs.Held.{rule_by}
use Rattle.fhir_cert_check.specs.Views.{rule_name}
use Rattle.fhir_cert_check.proofs.First.{first_goes, first_ends}
use Rattle.fhir_cert_check.proofs.constraints.unanswered.Goals as goal

pub returns-then-is_some : goal.returns-then-is_some
returns-then-is_some c = λ own holds.
    let some : is_some c.failing_by-rule.result ≡ true = sym c.is_some.ensures ∙ c.if-is_some.true in
    let base = c.index-bases-position in
    first_ends rule_name c.failing_by-rule.result (rule_by c.args.held.now own) c.own_constraints-bases.result.now
    c.loop-position.position base.result (c.failing_by-rule.ensures own holds) c.loop-position-test.true base.is (c.loop-position.invariant own holds) some
    ∙ ap (λ xs. first_of (flat_map (rule_by c.args.held.now own) xs)) c.own_constraints-bases.ensures

pub loop-position-preserved : goal.loop-position-preserved
loop-position-preserved c = λ own holds.
    let none : is_some c.failing_by-rule.result ≡ false = sym c.is_some.ensures ∙ c.if-is_some.false in
    let base = c.index-bases-position in
    first_goes rule_name c.failing_by-rule.result (rule_by c.args.held.now own) c.own_constraints-bases.result.now
    c.loop-position.position base.result (c.failing_by-rule.ensures own holds) c.loop-position-test.true base.is (c.loop-position.invariant own holds) none
