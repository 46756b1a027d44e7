use Rattle.std.proofs.Common.{◌≡◌, ◌++◌, map, drop}
use Rattle.fhir_alike.specs.ValueSets.{kept_by}
use Rattle.fhir_beside.specs.Made.{canonicals_from, canonicals}
use Rattle.fhir_beside.proofs.binding_sets.canonicals.Given as goal

abbrev pub invariant-loop-place : goal.invariant-loop-place
invariant-loop-place l = map (λ c. c.now) l.canonicals.items ++ canonicals_from l.sides.old.now l.sides.new.now (kept_by l.sides.old.now l.sides.new.now l.sides.changes.now.changed.items) l.place (drop l.place l.sides.old.now.structure_definitions) ≡ canonicals l.sides.old.now l.sides.new.now (kept_by l.sides.old.now l.sides.new.now l.sides.changes.now.changed.items)
