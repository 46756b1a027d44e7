use Rattle.std.proofs.Common.{◌≡◌, drop}
use Rattle.fhir_json.specs.Views.{items_view, members_view}
use Rattle.fhir_json.specs.Sound.{items_sound, members_sound}
use Rattle.fhir_json.proofs.soundness.+sound_in.Given as goal

abbrev pub invariant-items_sound_in-loop-item : goal.invariant-items_sound_in-loop-item
invariant-items_sound_in-loop-item l = items_sound (items_view (drop l.item-index l.item-items)) ≡ items_sound (items_view l.item-items)

abbrev pub invariant-members_sound_in-loop-member : goal.invariant-members_sound_in-loop-member
invariant-members_sound_in-loop-member l = members_sound (members_view (drop l.member-index l.member-items)) ≡ members_sound (members_view l.member-items)
