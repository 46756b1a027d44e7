use Rattle.std.proofs.Common.{◌≡◌, ◌++◌, take}
use Rattle.std.specs.List.{flat_map}
use Rattle.fhir_schema.specs.Resting.{target_rests_on}
use Rattle.fhir_schema.proofs.resting.push_targets.Given as goal

abbrev pub invariant-loop-element : goal.invariant-loop-element
invariant-loop-element l =
    l.places.items ≡ l.initial.places.items ++ flat_map (target_rests_on l.table l.definition) (take l.element-index l.element-items)
