use Rattle.std.proofs.Common.{◌≡◌, drop}
use Rattle.std.specs.List.{list_all}
use Rattle.fhir_definition.specs.Snapshot.{has_parent}
use Rattle.fhir_definition.proofs.by_id.ElementsById.blame_of_parents.Given as goal

abbrev pub invariant-loop-place : goal.invariant-loop-place
invariant-loop-place l = list_all (has_parent l.self) (drop l.place l.self) ≡ list_all (has_parent l.self) l.self
