use Rattle.std.proofs.Common.{◌≡◌, ◌+◌, ◌<◌, length, false, sym, ap, ◌∙◌, arith}
use Rattle.std.proofs.lemmas.List.{at_drop_all, take_rest}
use Rattle.fhir_json.specs.Tree.{Text}
use Rattle.fhir_json.specs.Views.{property_of, items_view}
use Rattle.fhir_matching.specs.Equality.{equal, items_equal}
use Rattle.fhir_matching.proofs.Sides.{no_more, passing, naming, passing_around, no_equal, name_is, first_true, second_true, third_left}
use Rattle.fhir_matching.proofs.equality.+equal.Goals as goal

pub items_eq-returns : goal.items_eq-returns
items_eq-returns t c =
    let others = c.loop-item.others.now in
    c.is_empty.ensures ∙ sym (no_more others)
    ∙ sym (at_drop_all (λ vs. items_equal (items_view vs) (items_view others)) c.args.left.now c.loop-item.item-index (omega arith))
    ∙ c.loop-item.invariant

pub is_member_among-returns-then-member_eq : goal.is_member_among-returns-then-member_eq
is_member_among-returns-then-member_eq t c =
    let m = property_of c.args.member.now in
    let there = c.index-others-place in
    first_true _ _ _ (passing_around m.0 (equal m.1) c.args.others.now c.args.place there.result c.requires (sym there.is)) c.if-member_eq.ensures

pub is_member_among-returns-then-has_equal : goal.is_member_among-returns-then-has_equal
is_member_among-returns-then-has_equal t c =
    let m = property_of c.args.member.now in
    let there = c.index-others-place in
    second_true _ _ _ _ _ (passing_around m.0 (equal m.1) c.args.others.now c.args.place there.result c.requires (sym there.is))
    c.if-member_eq.ensures c.has_equal.ensures c.if-has_equal.true

pub is_member_among-returns-else-has_equal : goal.is_member_among-returns-else-has_equal
is_member_among-returns-else-has_equal t c =
    let m = property_of c.args.member.now in
    let there = c.index-others-place in
    third_left _ _ _ _ _ _ (passing_around m.0 (equal m.1) c.args.others.now c.args.place there.result c.requires (sym there.is))
    c.if-member_eq.ensures c.has_equal.ensures c.if-has_equal.false
    (c.has_equal-else-has_equal.ensures ∙ ap (passing m.0 (equal m.1)) (take_rest c.args.others.now (c.args.place + 1)))

pub members_among-returns-in_default : goal.members_among-returns-in_default
members_among-returns-in_default t c =
    let m = c.member-item.result in
    let missing : naming (property_of m).0 c.args.others.now ≡ false =
    ap (λ (n : Text). naming n c.args.others.now) (sym (c.as_str.ensures.value ∙ name_is m)) ∙ sym c.in_default.ensures.named in
    let lt : c.loop-member.member-index < length c.args.members.now = omega arith in
    sym (sym c.loop-member.invariant ∙ no_equal c.args.members.now c.args.others.now _ m lt (sym c.member-item.is) missing)
