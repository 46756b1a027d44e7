use Rattle.std.proofs.Common.{◌≡◌, ℕ, ◌<◌, length}
use Rattle.fhir_audit.specs.Marks.{marked}
use Rattle.fhir_audit.proofs.above.marks_of.Given as goal

abbrev pub invariant-loop : goal.invariant-loop
invariant-loop l = record {
  long : length l.marks.items ≡ l.counter;
  each : (place : ℕ) → place < l.counter → marked l.marks.items place ≡ l.mark;
}
