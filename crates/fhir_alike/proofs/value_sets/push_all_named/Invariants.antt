use Rattle.std.proofs.Common.{◌≡◌, ◌++◌, drop}
use Rattle.fhir_json.specs.Views.{trees_of}
use Rattle.fhir_alike.specs.ValueSets.{places_in}
use Rattle.fhir_alike.proofs.value_sets.push_all_named.Given as goal

abbrev pub invariant-loop-include : goal.invariant-loop-include
invariant-loop-include l =
    l.places.items ++ places_in l.old (trees_of (drop l.include-index l.includes)) ≡ l.initial.places.items ++ places_in l.old (trees_of l.includes)
