use Rattle.std.proofs.Common.{◌≡◌, ◌+◌, ◌<◌, ◌||◌, Bool, take, length, false, sym, ap, ◌∙◌, arith}
use Rattle.std.proofs.lemmas.List.{take_rest}
use Rattle.fhir_json.specs.Tree.{Text}
use Rattle.fhir_json.specs.Views.{tree_of, property_of}
use Rattle.fhir_matching.specs.Fitting.{pattern_test}
use Rattle.fhir_matching.proofs.Sides.{fitting_found, fitting_outside_none, fitting_before_it, fitting_one}
use Rattle.fhir_matching.proofs.Sides.{passing, naming, passing_around, no_fitting, name_is, first_true, second_true, third_left}
use Rattle.fhir_matching.proofs.patterns.+fit.Goals as goal

pub place_fitting-loop-distance-init : goal.place_fitting-loop-distance-init
place_fitting-loop-distance-init t c = (omega arith, fitting_outside_none (pattern_test (tree_of c.args.pattern.now)) c.args.items.now c.min-near.result)

pub fitting_behind-returns-then-is_fitted_at-clause-fitted : goal.fitting_behind-returns-then-is_fitted_at-clause-fitted
fitting_behind-returns-then-is_fitted_at-clause-fitted t c =
    fitting_found (pattern_test (tree_of c.args.pattern.now)) c.args.items.now _ c.if-is_fitted_at.ensures.from

pub fitting_before-returns-then-is_fitted_at-clause-fitted : goal.fitting_before-returns-then-is_fitted_at-clause-fitted
fitting_before-returns-then-is_fitted_at-clause-fitted t c =
    fitting_found (pattern_test (tree_of c.args.pattern.now)) c.args.items.now _ c.if-is_fitted_at.ensures.from

pub is_member_fitted-returns-then-member_fits : goal.is_member_fitted-returns-then-member_fits
is_member_fitted-returns-then-member_fits t c =
    let m = property_of c.args.pattern.now in
    let there = c.index-members-place in
    first_true _ _ _ (passing_around m.0 (pattern_test m.1) c.args.members.now c.args.place there.result c.requires (sym there.is)) c.if-member_fits.ensures

pub is_member_fitted-returns-then-some_member_fits : goal.is_member_fitted-returns-then-some_member_fits
is_member_fitted-returns-then-some_member_fits t c =
    let m = property_of c.args.pattern.now in
    let there = c.index-members-place in
    second_true _ _ _ _ _ (passing_around m.0 (pattern_test m.1) c.args.members.now c.args.place there.result c.requires (sym there.is))
    c.if-member_fits.ensures c.some_member_fits.ensures c.if-some_member_fits.true

pub is_member_fitted-returns-else-some_member_fits : goal.is_member_fitted-returns-else-some_member_fits
is_member_fitted-returns-else-some_member_fits t c =
    let m = property_of c.args.pattern.now in
    let there = c.index-members-place in
    third_left _ _ _ _ _ _ (passing_around m.0 (pattern_test m.1) c.args.members.now c.args.place there.result c.requires (sym there.is))
    c.if-member_fits.ensures c.some_member_fits.ensures c.if-some_member_fits.false
    (c.some_member_fits-else-some_member_fits.ensures ∙ ap (passing m.0 (pattern_test m.1)) (take_rest c.args.members.now (c.args.place + 1)))

pub members_fit-returns-in_default : goal.members_fit-returns-in_default
members_fit-returns-in_default t c =
    let p = c.pattern-item.result in
    let missing : naming (property_of p).0 c.args.members.now ≡ false =
    ap (λ (n : Text). naming n c.args.members.now) (sym (c.as_str.ensures.value ∙ name_is p)) ∙ sym c.in_default.ensures.named in
    let lt : c.loop-pattern.pattern-index < length c.args.patterns.now = omega arith in
    sym (sym c.loop-pattern.invariant ∙ no_fitting c.args.patterns.now c.args.members.now _ p lt (sym c.pattern-item.is) missing)

pub is_fitted_at-returns-clause-before : goal.is_fitted_at-returns-clause-before
is_fitted_at-returns-clause-before t c =
    let p = pattern_test (tree_of c.args.pattern.now) in
    let there = c.index-items-place in
    fitting_before_it p c.args.items.now c.args.place there.result c.requires (sym there.is)
    ∙ ap (λ (b : Bool). fitting_one p (take c.args.place c.args.items.now) || b) (sym c.is_fitted.ensures)
