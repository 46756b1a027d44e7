use Rattle.std.proofs.Common.{◌≡◌, ◌≤◌, ◌+◌, drop}
use Rattle.fhir_alike.specs.ValueSets.{kept_by}
use Rattle.fhir_beside.specs.Types.{count_other}
use Rattle.fhir_beside.proofs.types.count_other.Given as goal

abbrev pub invariant-loop-place : goal.invariant-loop-place
invariant-loop-place l = record { counted : l.count + count_other l.sides.new.now (kept_by l.sides.old.now l.sides.new.now l.sides.changes.now.changed.items) l.place (drop l.place l.sides.old.now.structure_definitions) ≡ count_other l.sides.new.now (kept_by l.sides.old.now l.sides.new.now l.sides.changes.now.changed.items) 0 l.sides.old.now.structure_definitions; fits : l.count ≤ l.place }
