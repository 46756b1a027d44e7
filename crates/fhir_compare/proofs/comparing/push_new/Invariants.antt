use Rattle.std.proofs.Common.{◌≡◌, ◌++◌, drop}
use Rattle.fhir_compare.specs.Comparing.{all_new}
use Rattle.fhir_compare.specs.Views.{all_said}
use Rattle.fhir_compare.proofs.Turns.{news}
use Rattle.fhir_compare.proofs.comparing.push_new.Given as goal

abbrev pub invariant-loop-place : goal.invariant-loop-place
invariant-loop-place l =
    all_said l.into.items ++ news l.sides.old.now l.sides.mark.now (drop l.place l.sides.new.now.structure_definitions)
    ≡ all_said l.fn.into.items ++ all_new l.sides.old.now l.sides.new.now l.sides.mark.now
