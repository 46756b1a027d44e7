use Rattle.std.proofs.Common.{◌≡◌, ◌≤◌, ◌+◌, drop}
use Rattle.std.specs.List.{count_by}
use Rattle.fhir_beside.specs.Types.{is_new_type}
use Rattle.fhir_beside.proofs.types.count_new.Given as goal

abbrev pub invariant-loop-place : goal.invariant-loop-place
invariant-loop-place l = record { counted : l.count + count_by (is_new_type l.old) (drop l.place l.new.structure_definitions) ≡ count_by (is_new_type l.old) l.new.structure_definitions; fits : l.count ≤ l.place }
