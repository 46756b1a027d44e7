use Rattle.std.proofs.Common.{◌≡◌, drop}
use Rattle.fhir_json.specs.Views.{items_view, members_view}
use Rattle.fhir_reach.specs.Keys.{with_keys}
use Rattle.fhir_reach.specs.Starting.{items_keys, members_keys}
use Rattle.fhir_reach.proofs.starting.+tree.Given as goal

abbrev pub invariant-add_items-loop-item : goal.invariant-add_items-loop-item
invariant-add_items-loop-item l = with_keys l.found (items_keys (items_view (drop l.item-index l.item-items))) ≡ with_keys l.fn.found (items_keys (items_view l.item-items))

abbrev pub invariant-add_members-loop-member : goal.invariant-add_members-loop-member
invariant-add_members-loop-member l =
    with_keys l.found (members_keys (members_view (drop l.member-index l.member-items))) ≡ with_keys l.fn.found (members_keys (members_view l.member-items))
