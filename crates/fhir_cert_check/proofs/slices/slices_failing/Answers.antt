use Rattle.std.proofs.Common.{◌≡◌, true, false, arith, ap, sym, ◌∙◌}
use Rattle.std.specs.List.{flat_map}
use Rattle.std.specs.Option.{is_some}
use Rattle.fhir_elements.specs.Tests.{first_of}
use Rattle.fhir_cert_check.specs.Rules.{slice_rules}
use Rattle.fhir_cert_check.specs.Views.{rule_name}
use Rattle.fhir_cert_check.specs.PairSet.{has_pair}
use Rattle.fhir_cert_check.proofs.First.{first_goes, first_ends}
use Rattle.fhir_cert_check.proofs.slices.slices_failing.Goals as goal

pub returns-then-is_some : goal.returns-then-is_some
returns-then-is_some c =
    let some : is_some c.slice_failing-rule.result ≡ true = grind arith in
    let rules = slice_rules (has_pair c.args.pairs.now) c.args.schema.now c.args.name.now c.args.n c.args.m in
    let all = ap (λ xs. first_of (flat_map rules xs)) c.slices-base-items.ensures in
    first_ends rule_name c.slice_failing-rule.result rules c.slices-base-items.result.now
    c.loop-base.base-index c.base-item.result c.slice_failing-rule.ensures c.loop-base-test.true c.base-item.is (c.loop-base.invariant ∙ sym all) some ∙ all

pub loop-base-preserved : goal.loop-base-preserved
loop-base-preserved c =
    let none : is_some c.slice_failing-rule.result ≡ false = grind arith in
    let rules = slice_rules (has_pair c.args.pairs.now) c.args.schema.now c.args.name.now c.args.n c.args.m in
    let all = ap (λ xs. first_of (flat_map rules xs)) c.slices-base-items.ensures in
    first_goes rule_name c.slice_failing-rule.result rules c.slices-base-items.result.now
    c.loop-base.base-index c.base-item.result c.slice_failing-rule.ensures c.loop-base-test.true c.base-item.is (c.loop-base.invariant ∙ sym all) none ∙ all
