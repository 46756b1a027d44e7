use Rattle.std.proofs.Common.{◌≡◌, ◌++◌, map, drop}
use Rattle.std.specs.List.{filter_map}
use Rattle.fhir_alike.specs.ValueSets.{kept_by}
use Rattle.fhir_beside.specs.Made.{moved_set}
use Rattle.fhir_beside.proofs.binding_sets.push_canonicals.Given as goal

abbrev pub invariant-loop-element : goal.invariant-loop-element
invariant-loop-element l =
    map (λ c. c.now) l.canonicals.items ++ filter_map (moved_set (kept_by l.sides.old.now l.sides.new.now l.sides.changes.now.changed.items)) (drop l.element-index l.element-items)
    ≡ map (λ c. c.now) l.initial.canonicals.items ++ filter_map (moved_set (kept_by l.sides.old.now l.sides.new.now l.sides.changes.now.changed.items)) l.element-items
