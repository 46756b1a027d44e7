use Rattle.std.proofs.Common.{◌≡◌, drop}
use Rattle.std.specs.List.{list_all}
use Rattle.fhir_definition.specs.Definition.{is_whole}
use Rattle.fhir_definition.proofs.elements.blame_of_lacks.Given as goal

abbrev pub invariant-loop-place : goal.invariant-loop-place
invariant-loop-place l = list_all is_whole (drop l.place l.elements) ≡ list_all is_whole l.elements
