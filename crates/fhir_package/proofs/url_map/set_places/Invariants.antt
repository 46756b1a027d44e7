use Rattle.std.proofs.Common.{◌≤◌, length}
use Rattle.std.specs.Map.{keys_of}
use Rattle.fhir_names.specs.Places.{Knows}
use Rattle.fhir_package.specs.View.{entries_seen}
use Rattle.fhir_package.proofs.Placed.{ArePlaced}
use Rattle.fhir_package.proofs.url_map.set_places.Given as goal

abbrev pub invariant-loop-place : goal.invariant-loop-place
invariant-loop-place l =
    (l.place ≤ length l.entries) × (Knows l.fn.urls (keys_of (entries_seen l.entries)) → ArePlaced l.urls l.place (keys_of (entries_seen l.entries)))

abbrev pub decreases-loop-place : goal.decreases-loop-place
decreases-loop-place l = l.place
