use Rattle.std.proofs.Common.{◌≡◌, drop}
use Rattle.std.specs.List.{list_all}
use Rattle.fhir_definition.specs.Bounds.{has_lexical_bounds}
use Rattle.fhir_definition.proofs.bounds.blame_of_bounds.Given as goal

abbrev pub invariant-loop-place : goal.invariant-loop-place
invariant-loop-place l = list_all has_lexical_bounds (drop l.place l.elements) ≡ list_all has_lexical_bounds l.elements
