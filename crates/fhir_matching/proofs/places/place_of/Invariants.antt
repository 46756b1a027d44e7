use Rattle.std.proofs.Common.{◌≡◌, ◌≤◌, length}
use Rattle.fhir_matching.proofs.Sides.{naming, outside}
use Rattle.fhir_matching.proofs.places.place_of.Given as goal

abbrev pub invariant-loop-distance : goal.invariant-loop-distance
invariant-loop-distance l = (l.near ≤ length l.members) × (naming l.name l.members ≡ outside l.name l.members l.near l.distance)
