use Rattle.fhir_alike.specs.ValueSets.{kept_by}
use Rattle.fhir_beside.specs.Views.{entries_seen}
use Rattle.fhir_beside.proofs.Sets.{ArePutUpTo}
use Rattle.fhir_beside.proofs.binding_sets.sets_put.Given as goal

abbrev pub invariant-loop-place : goal.invariant-loop-place
invariant-loop-place l = ArePutUpTo l.sides.old.now l.sides.new.now (kept_by l.sides.old.now l.sides.new.now l.sides.changes.now.changed.items) l.sides.mark.now l.place (entries_seen l.entries.items)
