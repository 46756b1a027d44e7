use Rattle.std.proofs.Common.{take}
use Rattle.fhir_reach.specs.Places.{HasPlaces}
use Rattle.fhir_reach.proofs.places.TypePlaces.of.Given as goal

abbrev pub invariant-loop-place : goal.invariant-loop-place
invariant-loop-place l = HasPlaces l.types (take l.place l.«package».structure_definitions)
