use Rattle.std.proofs.Common.{◌≡◌, ◌+◌, drop}
use Rattle.std.specs.Prelude.{if◌then◌else◌}
use Rattle.std.specs.List.{count_by}
use Rattle.fhir_definition.specs.Snapshot.{is_root}
use Rattle.fhir_definition.proofs.by_id.blame_of_roots.Given as goal

abbrev pub invariant-loop-place : goal.invariant-loop-place
invariant-loop-place l =
    (if l.has_root then 1 else 0) + count_by is_root (drop l.place l.elements) ≡ count_by is_root l.elements
