use Rattle.std.proofs.Common.{◌≡◌, drop}
use Rattle.std.specs.List.{flat_map}
use Rattle.fhir_reach.specs.Keys.{with_keys}
use Rattle.fhir_reach.specs.Places.{keys_at_place}
use Rattle.fhir_reach.proofs.reaching.visit_places.Given as goal

abbrev pub invariant-loop-place : goal.invariant-loop-place
invariant-loop-place l =
    with_keys l.found (flat_map (keys_at_place l.«package».structure_definitions) (drop l.place-index l.places))
    ≡ with_keys l.fn.found (flat_map (keys_at_place l.«package».structure_definitions) l.places)
