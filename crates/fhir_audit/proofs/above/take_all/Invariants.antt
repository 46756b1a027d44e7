use Rattle.std.proofs.Common.{◌≡◌, ◌<◌, ℕ, Bool, None, map, string_bytes, length, IsTrue}
use Rattle.fhir_audit.specs.Asked.{IsClosed}
use Rattle.fhir_audit.specs.Marks.{IsMarked, RestsWithin, is_own_at}
use Rattle.fhir_audit.proofs.above.take_all.Given as goal

abbrev pub invariant-loop-place : goal.invariant-loop-place
invariant-loop-place l = record {
  long : length l.marks ≡ length l.package.structure_definitions;
  own : (other : ℕ) → other < l.place → IsTrue (is_own_at (map string_bytes l.prefixes) l.package other) → IsMarked l.marks other;
  least : (set : ℕ → Bool) → IsClosed (map string_bytes l.prefixes) l.package set → (other : ℕ) → IsMarked l.marks other → IsTrue (set other);
  rests : RestsWithin l.package l.marks None;
}
