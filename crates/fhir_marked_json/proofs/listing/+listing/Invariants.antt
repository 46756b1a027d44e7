use Rattle.std.proofs.Common.{◌≡◌, ◌++◌, drop, false}
use Rattle.fhir_json.specs.Views.{items_view, members_view}
use Rattle.fhir_marked_json.specs.Lines.{item_lines, member_lines}
use Rattle.fhir_marked_json.specs.Views.{told}
use Rattle.fhir_marked_json.proofs.listing.+listing.Given as goal

abbrev pub invariant-put_items-loop-item : goal.invariant-put_items-loop-item
invariant-put_items-loop-item l =
    told l.into.items ++ item_lines l.margin l.begun (items_view (drop l.item-index l.item-items))
    ≡ told l.initial.into.items ++ item_lines l.margin false (items_view l.item-items)

abbrev pub invariant-put_members-loop-member : goal.invariant-put_members-loop-member
invariant-put_members-loop-member l =
    told l.into.items ++ member_lines l.margin l.begun (members_view (drop l.member-index l.member-items))
    ≡ told l.initial.into.items ++ member_lines l.margin false (members_view l.member-items)
