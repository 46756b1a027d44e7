use Rattle.std.proofs.Common.{take}
use Rattle.std.specs.Map.{keys_of}
use Rattle.fhir_codes.specs.Placing.{Completes}
use Rattle.fhir_codes.proofs.sources.complete_of.Given as goal

abbrev pub invariant-loop-place : goal.invariant-loop-place
invariant-loop-place l = Completes l.from l.complete (keys_of (take l.place l.from.code_systems))
