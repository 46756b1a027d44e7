use Rattle.std.proofs.Common.{◌≡◌, drop}
use Rattle.std.specs.List.{find}
use Rattle.fhir_definition.specs.Snapshot.{is_root}
use Rattle.fhir_inheritance.proofs.sources.root_of.Given as goal

abbrev pub invariant-loop-element : goal.invariant-loop-element
invariant-loop-element l = find is_root (drop l.element-index l.elements) ≡ find is_root l.elements
