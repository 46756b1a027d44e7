use Rattle.std.proofs.Common.{◌≡◌, drop}
use Rattle.fhir_alike.specs.Spreading.{tell_marked, first_told}
use Rattle.fhir_alike.proofs.spreading.first_told.Given as goal

abbrev pub invariant-loop-place : goal.invariant-loop-place
invariant-loop-place l = tell_marked l.place (drop l.place l.marks) (l.told.marks.items, l.told.queue.items) ≡ first_told l.marks
