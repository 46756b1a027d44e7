use Rattle.std.proofs.Common.{take}
use Rattle.fhir_compare.specs.Owns.{AreOwnsFrom}
use Rattle.fhir_compare.specs.Views.{all_owns}
use Rattle.fhir_compare.proofs.owning.all_own.Given as goal

abbrev pub invariant-loop-place : goal.invariant-loop-place
invariant-loop-place l =
    AreOwnsFrom l.sides.old.now l.sides.new.now l.sides.mark.now 0 (take l.place l.sides.old.now.structure_definitions) (all_owns l.all.items)
