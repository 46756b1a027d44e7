use Rattle.std.proofs.Common.{◌≡◌, length}
use Rattle.fhir_positions.proofs.wanted.Wanted.add_all.Given as goal

abbrev pub invariant-loop-place : goal.invariant-loop-place
invariant-loop-place l = length l.all.items ≡ l.place-index
