use Rattle.std.proofs.Common.{◌≡◌, ◌+◌, ◌*◌, false, drop, string_bytes}
use Rattle.std.specs.List.{list_any, flat_map}
use Rattle.fhir_instance.specs.View.{item_of}
use Rattle.fhir_conformance.specs.Asks.{places_of, slice_asks, slot_asks}
use Rattle.fhir_conformance.specs.Conformance.{Around, conforms, constant, entry_holds, profile_holds}
use Rattle.fhir_walk.specs.Walks.{none, pass_all, IsAroundKids}
use Rattle.fhir_walk.proofs.Kids.{named_from}
use Rattle.fhir_walk.proofs.Sliced.{asked_from}
use Rattle.fhir_walk.proofs.walking.+walking.Given as goal

abbrev pub decreases-item_conforms : goal.decreases-item_conforms
decreases-item_conforms l = 12 * l.depth

abbrev pub decreases-root_conforms : goal.decreases-root_conforms
decreases-root_conforms l = 12 * l.depth + 11

abbrev pub decreases-inner_conforms : goal.decreases-inner_conforms
decreases-inner_conforms l = 12 * l.depth + 11

abbrev pub decreases-rest_conforms : goal.decreases-rest_conforms
decreases-rest_conforms l = 12 * l.depth + 10

abbrev pub decreases-own_root_holds : goal.decreases-own_root_holds
decreases-own_root_holds l = 12 * l.depth + 1

abbrev pub decreases-types_hold : goal.decreases-types_hold
decreases-types_hold l = 12 * l.depth + 4

abbrev pub decreases-entry_holds : goal.decreases-entry_holds
decreases-entry_holds l = 12 * l.depth + 3

abbrev pub decreases-profiles_hold : goal.decreases-profiles_hold
decreases-profiles_hold l = 12 * l.depth + 2

abbrev pub decreases-profile_holds : goal.decreases-profile_holds
decreases-profile_holds l = 12 * l.depth + 1

abbrev pub decreases-kids_conform : goal.decreases-kids_conform
decreases-kids_conform l = 12 * l.depth + 9

abbrev pub decreases-slots_conform : goal.decreases-slots_conform
decreases-slots_conform l = 12 * l.depth + 8

abbrev pub decreases-slot_conforms : goal.decreases-slot_conforms
decreases-slot_conforms l = 12 * l.depth + 7

abbrev pub decreases-sliced_conform : goal.decreases-sliced_conform
decreases-sliced_conform l = 12 * l.depth + 6

abbrev pub decreases-slices_conform : goal.decreases-slices_conform
decreases-slices_conform l = 12 * l.depth + 5

abbrev pub decreases-slice_conforms : goal.decreases-slice_conforms
decreases-slice_conforms l = 12 * l.depth + 4

abbrev pub decreases-counted_conform : goal.decreases-counted_conform
decreases-counted_conform l = 12 * l.depth + 3

abbrev pub decreases-members_conform : goal.decreases-members_conform
decreases-members_conform l = 12 * l.depth + 3

abbrev pub decreases-named_conform : goal.decreases-named_conform
decreases-named_conform l = 12 * l.depth + 2

abbrev pub decreases-member_conforms : goal.decreases-member_conforms
decreases-member_conforms l = 12 * l.depth + 1

abbrev pub decreases-kid_conforms : goal.decreases-kid_conforms
decreases-kid_conforms l = 12 * l.depth + 1

abbrev pub invariant-types_hold-loop-entry : goal.invariant-types_hold-loop-entry
invariant-types_hold-loop-entry l =
    (here : Around) → here.nearest ≡ item_of l.around
    → list_any (entry_holds l.schema none (conforms l.schema (constant false) here (item_of l.item)) (item_of l.item)) (drop l.entry-index l.entries)
    ≡ list_any (entry_holds l.schema none (conforms l.schema (constant false) here (item_of l.item)) (item_of l.item)) l.entries

abbrev pub invariant-profiles_hold-loop-profile : goal.invariant-profiles_hold-loop-profile
invariant-profiles_hold-loop-profile l =
    (here : Around) → here.nearest ≡ item_of l.around
    → list_any (λ p. profile_holds l.schema none (conforms l.schema (constant false) here (item_of l.item)) (item_of l.item) (string_bytes p)) (drop l.profile-index l.profiles)
    ≡ list_any (λ p. profile_holds l.schema none (conforms l.schema (constant false) here (item_of l.item)) (item_of l.item) (string_bytes p)) l.profiles

abbrev pub invariant-slots_conform-loop-slot : goal.invariant-slots_conform-loop-slot
invariant-slots_conform-loop-slot l =
    (here : Around) → IsAroundKids l.schema (item_of l.item) (item_of l.resource) here
    → pass_all l.schema here (item_of l.item) (flat_map (slot_asks l.schema (item_of l.item) l.holder) (drop l.slot-index l.slot-items))
    ≡ pass_all l.schema here (item_of l.item) (flat_map (slot_asks l.schema (item_of l.item) l.holder) l.slot-items)

abbrev pub invariant-named_conform-loop-kid : goal.invariant-named_conform-loop-kid
invariant-named_conform-loop-kid l =
    (here : Around) → IsAroundKids l.schema (item_of l.item) (item_of l.resource) here
    → named_from l.schema here (item_of l.item) l.node l.name l.kid-index (drop l.kid-index l.kid-items)
    ≡ named_from l.schema here (item_of l.item) l.node l.name 0 l.kid-items

abbrev pub invariant-slices_conform-loop-slice : goal.invariant-slices_conform-loop-slice
invariant-slices_conform-loop-slice l =
    (here : Around) → IsAroundKids l.schema (item_of l.item) (item_of l.resource) here
    → pass_all l.schema here (item_of l.item) (flat_map (slice_asks l.schema (item_of l.item) l.name (places_of l.name (item_of l.item)) l.node) (drop l.slice-index l.slice-items))
    ≡ pass_all l.schema here (item_of l.item) (flat_map (slice_asks l.schema (item_of l.item) l.name (places_of l.name (item_of l.item)) l.node) l.slice-items)

abbrev pub invariant-members_conform-loop-kid : goal.invariant-members_conform-loop-kid
invariant-members_conform-loop-kid l =
    (here : Around) → IsAroundKids l.schema (item_of l.item) (item_of l.resource) here
    → asked_from l.schema here (item_of l.item) l.slice l.name l.kid-index (drop l.kid-index l.kid-items)
    ≡ asked_from l.schema here (item_of l.item) l.slice l.name 0 l.kid-items
