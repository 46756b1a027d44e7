use Rattle.std.proofs.Common.{ℕ, List}
use Rattle.std.specs.Io.KnownBytes.{Appends}
use Rattle.fhir_bulk.proofs.relied.Relied.write.Given as goal

abbrev pub invariant-loop-text : goal.invariant-loop-text
invariant-loop-text g l = (written : List ℕ) × Appends (g.W.Write.contents l.initial.out) (g.W.Write.contents l.out) written
