use Rattle.std.proofs.Common.{◌≡◌, None, ◌++◌, arith, ap, sym, ◌∙◌, option_map}
use Rattle.std.specs.List.{flat_map}
use Rattle.fhir_schema.specs.Schemas.{slices}
use Rattle.fhir_cert_check.specs.Rule.{entry}
use Rattle.fhir_cert_check.specs.Rules.{has_item_pair, slice_rules, slicing_rules}
use Rattle.fhir_cert_check.specs.Views.{rule_name}
use Rattle.fhir_cert_check.specs.PairSet.{has_pair}
use Rattle.fhir_cert_check.proofs.First.{first_holds, first_before, first_behind}
use Rattle.fhir_cert_check.proofs.slices.allowed_failing.Goals as goal

pub returns-in-Some : goal.returns-in-Some
returns-in-Some c =
    let s = c.args.schema.now in
    let n = c.args.n in
    let m = c.args.m in
    let has = has_pair c.args.pairs.now in
    let of_slices = flat_map (slice_rules has s c.args.name.now n m) (slices s m) in
    let below = slicing_rules s c.args.name.now n m in
    sym (first_holds (has_item_pair has n m) (entry c.args.name.now) (of_slices ++ below) (sym c.has_item_pair.ensures ∙ c.if-not-has_item_pair.false)
    ∙ first_before of_slices below (rule_name c.in-Some.rule) (sym c.in-Some.ensures))

pub returns : goal.returns
returns c =
    let s = c.args.schema.now in
    let n = c.args.n in
    let m = c.args.m in
    let has = has_pair c.args.pairs.now in
    let of_slices = flat_map (slice_rules has s c.args.name.now n m) (slices s m) in
    let below = slicing_rules s c.args.name.now n m in
    let none : c.slices_failing.result ≡ None = grind arith in
    c.slicing_failing.ensures
    ∙ sym (first_holds (has_item_pair has n m) (entry c.args.name.now) (of_slices ++ below) (sym c.has_item_pair.ensures ∙ c.if-not-has_item_pair.false)
    ∙ first_behind of_slices below (sym c.slices_failing.ensures ∙ ap (option_map rule_name) none))
