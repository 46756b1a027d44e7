use Rattle.std.proofs.Common.{◌≡◌, length}
use Rattle.fhir_telling.proofs.noting.notes_at.Given as goal

abbrev pub invariant-loop-issue : goal.invariant-loop-issue
invariant-loop-issue l = length l.notes.items ≡ l.issue-index
