use Rattle.std.proofs.Common.{map, take, string_bytes}
use Rattle.fhir_names.specs.Places.{Finds}
use Rattle.fhir_inheritance.proofs.texts.index_of.Given as goal

abbrev pub invariant-loop-place : goal.invariant-loop-place
invariant-loop-place l = Finds l.places (map string_bytes (take l.place l.texts))
