use Rattle.std.proofs.Common.{take, map, string_bytes}
use Rattle.fhir_targets.specs.Base.{ArePlaces}
use Rattle.fhir_targets.proofs.base.places_of.Given as goal

abbrev pub invariant-loop-target : goal.invariant-loop-target
invariant-loop-target l = ArePlaces l.schema (map string_bytes (take l.target-index l.targets)) l.places
