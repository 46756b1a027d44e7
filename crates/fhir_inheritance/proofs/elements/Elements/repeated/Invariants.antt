use Rattle.std.proofs.Common.{◌≡◌, drop}
use Rattle.fhir_definition.specs.Snapshot.{are_first, ids_differ}
use Rattle.fhir_inheritance.proofs.elements.Elements.repeated.Given as goal

abbrev pub invariant-loop-place : goal.invariant-loop-place
invariant-loop-place l = are_first l.self l.place (drop l.place l.self) ≡ ids_differ l.self
