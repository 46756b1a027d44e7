use Rattle.std.proofs.Common.{◌≡◌, drop}
use Rattle.fhir_alike.specs.ValueSets.{kept_by}
use Rattle.fhir_beside.specs.Types.{binds_another}
use Rattle.fhir_beside.proofs.types.binds_another.Given as goal

abbrev pub invariant-loop-element : goal.invariant-loop-element
invariant-loop-element l =
    binds_another (kept_by l.sides.old.now l.sides.new.now l.sides.changes.now.changed.items) (drop l.element-index l.element-items) ≡ binds_another (kept_by l.sides.old.now l.sides.new.now l.sides.changes.now.changed.items) l.element-items
