use Rattle.std.proofs.Common.{◌≡◌, replicate, None}
use Rattle.fhir_alike.proofs.spreading.no_marks.Given as goal

abbrev pub invariant-loop-done : goal.invariant-loop-done
invariant-loop-done l = l.marks.items ≡ replicate l._done None
