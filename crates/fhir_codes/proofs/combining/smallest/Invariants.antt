use Rattle.std.proofs.Common.{◌<◌, length}
use Rattle.fhir_codes.proofs.combining.smallest.Given as goal

abbrev pub invariant-loop-place : goal.invariant-loop-place
invariant-loop-place l = l.least < length l.sets
