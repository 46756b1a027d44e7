use Rattle.std.proofs.Common.{◌≡◌, ◌++◌, drop}
use Rattle.fhir_schema.specs.Resting.{unusable_from}
use Rattle.fhir_schema.specs.Blaming.{reasons_of}
use Rattle.fhir_schema.proofs.settling.unusable_places.Given as goal

abbrev pub invariant-loop-place : goal.invariant-loop-place
invariant-loop-place l = (l.places.items ++ unusable_from l.place (reasons_of (drop l.place l.blames))) ≡ unusable_from 0 (reasons_of l.blames)
