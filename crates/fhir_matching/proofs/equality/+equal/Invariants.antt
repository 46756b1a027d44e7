use Rattle.std.proofs.Common.{◌≡◌, drop}
use Rattle.fhir_json.specs.Views.{items_view, members_view, property_of}
use Rattle.fhir_matching.specs.Equality.{equal, items_equal, members_within, has_passing}
use Rattle.fhir_matching.proofs.equality.+equal.Given as goal

abbrev pub invariant-items_eq-loop-item : goal.invariant-items_eq-loop-item
invariant-items_eq-loop-item l =
    items_equal (items_view (drop l.item-index l.left)) (items_view l.others) ≡ items_equal (items_view l.left) (items_view l.right)

abbrev pub invariant-members_among-loop-member : goal.invariant-members_among-loop-member
invariant-members_among-loop-member l =
    members_within (members_view (drop l.member-index l.members)) (members_view l.others) ≡ members_within (members_view l.members) (members_view l.others)

abbrev pub invariant-has_equal-loop-other : goal.invariant-has_equal-loop-other
invariant-has_equal-loop-other l =
    has_passing (property_of l.member).0 (equal (property_of l.member).1) (members_view (drop l.other-index l.others))
    ≡ has_passing (property_of l.member).0 (equal (property_of l.member).1) (members_view l.others)
