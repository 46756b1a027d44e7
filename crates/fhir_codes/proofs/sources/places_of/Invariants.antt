use Rattle.std.proofs.Common.{take}
use Rattle.std.specs.Map.{keys_of}
use Rattle.fhir_names.specs.Places.{Finds}
use Rattle.fhir_codes.proofs.sources.places_of.Given as goal

abbrev pub invariant-loop-place : goal.invariant-loop-place
invariant-loop-place l = Finds l.places (keys_of (take l.place l.from.value_sets))
