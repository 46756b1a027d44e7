use Rattle.std.proofs.Common.{◌≡◌, ◌++◌, drop}
use Rattle.fhir_json.specs.Views.{items_view, members_view, text_seen}
use Rattle.fhir_unrecognized.specs.Unrecognized.{in_members, in_objects}
use Rattle.fhir_unrecognized.specs.Views.{members_seen}
use Rattle.fhir_unrecognized.proofs.walk.+walk.Given as goal

abbrev pub invariant-put_members-loop-member : goal.invariant-put_members-loop-member
invariant-put_members-loop-member l =
    members_seen l.found.items ++ in_members l.object (text_seen l.id) (members_view (drop l.member-index l.member-items))
    ≡ members_seen l.initial.found.items ++ in_members l.object (text_seen l.id) (members_view l.member-items)

abbrev pub invariant-put_objects-loop-item : goal.invariant-put_objects-loop-item
invariant-put_objects-loop-item l =
    members_seen l.found.items ++ in_objects l.object (text_seen l.id) (items_view (drop l.item-index l.item-items))
    ≡ members_seen l.initial.found.items ++ in_objects l.object (text_seen l.id) (items_view l.item-items)
