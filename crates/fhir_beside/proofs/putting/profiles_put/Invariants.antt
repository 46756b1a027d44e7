use Rattle.std.proofs.Common.{◌≡◌, ◌++◌, drop}
use Rattle.fhir_alike.specs.ValueSets.{kept_by}
use Rattle.fhir_beside.specs.Made.{profiles_from, profiles_put}
use Rattle.fhir_beside.specs.Views.{entries_seen}
use Rattle.fhir_beside.proofs.putting.profiles_put.Given as goal

abbrev pub invariant-loop-place : goal.invariant-loop-place
invariant-loop-place l = entries_seen l.entries.items ++ profiles_from l.sides.old.now l.sides.new.now (kept_by l.sides.old.now l.sides.new.now l.sides.changes.now.changed.items) l.sides.mark.now l.place (drop l.place l.sides.old.now.structure_definitions) ≡ profiles_put l.sides.old.now l.sides.new.now (kept_by l.sides.old.now l.sides.new.now l.sides.changes.now.changed.items) l.sides.mark.now
