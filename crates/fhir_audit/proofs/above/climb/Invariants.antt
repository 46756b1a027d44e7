use Rattle.std.proofs.Common.{◌≡◌, ◌⊎◌, ℕ, ◌<◌, not, length, Some, None}
use Rattle.std.specs.List.{count_by}
use Rattle.fhir_audit.specs.Marks.{IsMarked, RestsWithin, AreWithin}
use Rattle.fhir_audit.proofs.Climbing.{IsNextWithin}
use Rattle.fhir_audit.proofs.above.climb.Given as goal

abbrev pub invariant-loop-at : goal.invariant-loop-at
invariant-loop-at l = record {
  inside : (place : ℕ) → l.at ≡ Some place → place < length l.fn.marks;
  kept : (place : ℕ) → IsMarked l.fn.marks place → IsMarked l.marks place;
  begun : (l.at ≡ Some l.from) ⊎ IsMarked l.marks l.from;
  within : AreWithin l.package l.fn.marks l.from l.marks;
  next : IsNextWithin l.package l.fn.marks l.from l.at;
  rests : RestsWithin l.package l.fn.marks None → RestsWithin l.package l.marks l.at;
}

abbrev pub decreases-loop-at : goal.decreases-loop-at
decreases-loop-at l = count_by not l.marks
