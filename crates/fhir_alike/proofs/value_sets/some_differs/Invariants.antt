use Rattle.std.proofs.Common.{◌≡◌, drop}
use Rattle.fhir_json.specs.Views.{trees_of}
use Rattle.fhir_alike.specs.ValueSets.{some_differs}
use Rattle.fhir_alike.proofs.value_sets.some_differs.Given as goal

abbrev pub invariant-loop-include : goal.invariant-loop-include
invariant-loop-include l =
    some_differs l.both.old.now l.both.new.now (trees_of (drop l.include-index l.includes)) ≡ some_differs l.both.old.now l.both.new.now (trees_of l.includes)
