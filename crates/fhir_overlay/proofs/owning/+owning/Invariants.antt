use Rattle.std.proofs.Common.{◌≡◌, map, take}
use Rattle.fhir_json.specs.Views.{tree_of, property_of}
use Rattle.fhir_overlay.proofs.owning.+owning.Given as goal

abbrev pub invariant-owned_items-loop-item : goal.invariant-owned_items-loop-item
invariant-owned_items-loop-item l = map tree_of l.all.items ≡ map tree_of (take l.item-index l.item-items)

abbrev pub invariant-owned_members-loop-member : goal.invariant-owned_members-loop-member
invariant-owned_members-loop-member l = map property_of l.all.items ≡ map property_of (take l.member-index l.member-items)
