use Rattle.std.proofs.Common.{◌≡◌, ◌++◌, map, drop}
use Rattle.fhir_alike.specs.ValueSets.{differs_itself, set_marks}
use Rattle.fhir_alike.proofs.value_sets.marks_of.Given as goal

abbrev pub invariant-loop-place : goal.invariant-loop-place
invariant-loop-place l =
    l.marks.items ++ map (differs_itself l.both.old.now l.both.new.now) (drop l.place l.both.old.now.value_sets)
    ≡ set_marks l.both.old.now l.both.new.now
