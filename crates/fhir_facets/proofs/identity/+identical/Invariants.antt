use Rattle.std.proofs.Common.{◌≡◌, drop}
use Rattle.fhir_json.specs.Views.{items_view, members_view}
use Rattle.fhir_facets.specs.Identity.{items_identical, members_identical}
use Rattle.fhir_facets.proofs.identity.+identical.Given as goal

abbrev pub invariant-items_identical-loop-item : goal.invariant-items_identical-loop-item
invariant-items_identical-loop-item l =
    items_identical (items_view (drop l.item-index l.left)) (items_view l.others) ≡ items_identical (items_view l.left) (items_view l.right)

abbrev pub invariant-members_identical-loop-member : goal.invariant-members_identical-loop-member
invariant-members_identical-loop-member l =
    members_identical (members_view (drop l.member-index l.left)) (members_view l.others)
    ≡ members_identical (members_view l.left) (members_view l.right)
