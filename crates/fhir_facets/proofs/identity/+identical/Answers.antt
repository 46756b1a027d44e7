use Rattle.std.proofs.Common.{sym, ◌∙◌, arith}
use Rattle.std.proofs.lemmas.List.{at_drop_all}
use Rattle.fhir_json.specs.Views.{items_view, members_view}
use Rattle.fhir_facets.specs.Identity.{items_identical, members_identical}
use Rattle.fhir_facets.proofs.Ends.{no_items_left, no_members_left}
use Rattle.fhir_facets.proofs.identity.+identical.Goals as goal

pub items_identical-returns : goal.items_identical-returns
items_identical-returns t c =
    let others = c.loop-item.others.now in
    c.is_empty.ensures ∙ sym (no_items_left others)
    ∙ sym (at_drop_all (λ vs. items_identical (items_view vs) (items_view others)) c.args.left.now c.loop-item.item-index (omega arith))
    ∙ c.loop-item.invariant

pub members_identical-returns : goal.members_identical-returns
members_identical-returns t c =
    let others = c.loop-member.others.now in
    c.is_empty.ensures ∙ sym (no_members_left others)
    ∙ sym (at_drop_all (λ ms. members_identical (members_view ms) (members_view others)) c.args.left.now c.loop-member.member-index (omega arith))
    ∙ c.loop-member.invariant
