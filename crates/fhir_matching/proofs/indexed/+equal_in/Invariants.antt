use Rattle.std.proofs.Common.{◌≡◌, drop}
use Rattle.fhir_json.specs.Views.{items_view, members_view}
use Rattle.fhir_matching.specs.Equality.{items_equal, members_within}
use Rattle.fhir_matching.proofs.indexed.+equal_in.Given as goal

abbrev pub invariant-items_eq_in-loop-item : goal.invariant-items_eq_in-loop-item
invariant-items_eq_in-loop-item l =
    items_equal (items_view (drop l.item-index l.left)) (items_view l.others) ≡ items_equal (items_view l.left) (items_view l.right)

abbrev pub invariant-members_among_in-loop-member : goal.invariant-members_among_in-loop-member
invariant-members_among_in-loop-member l =
    members_within (members_view (drop l.member-index l.members)) (members_view l.others) ≡ members_within (members_view l.members) (members_view l.others)
