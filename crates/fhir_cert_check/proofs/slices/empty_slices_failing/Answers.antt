use Rattle.std.proofs.Common.{◌≡◌, true, false, [], ◌∷◌, map, arith, ap, sym, ◌∙◌}
use Rattle.std.specs.Option.{is_some}
use Rattle.fhir_elements.specs.Tests.{first_of}
use Rattle.fhir_cert_check.specs.Rules.{empty_slice_rule}
use Rattle.fhir_cert_check.specs.Views.{rule_name}
use Rattle.fhir_cert_check.proofs.First.{first_goes, first_ends, singles}
use Rattle.fhir_cert_check.proofs.slices.empty_slices_failing.Goals as goal

pub loop-base-init : goal.loop-base-init
loop-base-init c =
    let rule = empty_slice_rule c.args.schema.now c.args.name.now c.args.m in
    ap first_of (singles rule c.slices-base-items.result.now) ∙ ap (λ xs. first_of (map rule xs)) c.slices-base-items.ensures

pub returns-then-is_some : goal.returns-then-is_some
returns-then-is_some c =
    let some : is_some c.empty_slice_failing-rule.result ≡ true = grind arith in
    let rule = empty_slice_rule c.args.schema.now c.args.name.now c.args.m in
    let all = ap first_of (singles rule c.slices-base-items.result.now) ∙ ap (λ xs. first_of (map rule xs)) c.slices-base-items.ensures in
    first_ends rule_name c.empty_slice_failing-rule.result (λ b. rule b ∷ []) c.slices-base-items.result.now
    c.loop-base.base-index c.base-item.result c.empty_slice_failing-rule.ensures c.loop-base-test.true c.base-item.is (c.loop-base.invariant ∙ sym all) some ∙ all

pub loop-base-preserved : goal.loop-base-preserved
loop-base-preserved c =
    let none : is_some c.empty_slice_failing-rule.result ≡ false = grind arith in
    let rule = empty_slice_rule c.args.schema.now c.args.name.now c.args.m in
    let all = ap first_of (singles rule c.slices-base-items.result.now) ∙ ap (λ xs. first_of (map rule xs)) c.slices-base-items.ensures in
    first_goes rule_name c.empty_slice_failing-rule.result (λ b. rule b ∷ []) c.slices-base-items.result.now
    c.loop-base.base-index c.base-item.result c.empty_slice_failing-rule.ensures c.loop-base-test.true c.base-item.is (c.loop-base.invariant ∙ sym all) none ∙ all
