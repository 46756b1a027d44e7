use Rattle.std.proofs.Common.{◌≡◌, ◌≤◌, length, drop}
use Rattle.fhir_json.specs.Views.{tree_of, items_view, members_view, property_of}
use Rattle.fhir_matching.specs.Equality.{has_passing}
use Rattle.fhir_matching.specs.Fitting.{pattern_test, some_passing, each_fitted, has_fitting}
use Rattle.fhir_matching.proofs.Sides.{fitting_outside}
use Rattle.fhir_matching.proofs.patterns.+fit.Given as goal

abbrev pub invariant-items_fit-loop-pattern : goal.invariant-items_fit-loop-pattern
invariant-items_fit-loop-pattern l =
    each_fitted (items_view (drop l.pattern-index l.patterns)) (items_view l.items) ≡ each_fitted (items_view l.patterns) (items_view l.items)

abbrev pub invariant-place_fitting-loop-distance : goal.invariant-place_fitting-loop-distance
invariant-place_fitting-loop-distance l =
    (l.near ≤ length l.items)
    × (some_passing (pattern_test (tree_of l.pattern)) (items_view l.items) ≡ fitting_outside (pattern_test (tree_of l.pattern)) l.items l.near l.distance)

abbrev pub invariant-members_fit-loop-pattern : goal.invariant-members_fit-loop-pattern
invariant-members_fit-loop-pattern l =
    has_fitting (members_view (drop l.pattern-index l.patterns)) (members_view l.members) ≡ has_fitting (members_view l.patterns) (members_view l.members)

abbrev pub invariant-some_member_fits-loop-member : goal.invariant-some_member_fits-loop-member
invariant-some_member_fits-loop-member l =
    has_passing (property_of l.pattern).0 (pattern_test (property_of l.pattern).1) (members_view (drop l.member-index l.members))
    ≡ has_passing (property_of l.pattern).0 (pattern_test (property_of l.pattern).1) (members_view l.members)
