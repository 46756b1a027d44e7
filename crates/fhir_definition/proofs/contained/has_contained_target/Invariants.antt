use Rattle.std.proofs.Common.{◌≡◌, drop}
use Rattle.std.specs.List.{list_any}
use Rattle.fhir_definition.specs.Contained.{has_contained_target}
use Rattle.fhir_definition.proofs.contained.has_contained_target.Given as goal

abbrev pub invariant-loop-entry : goal.invariant-loop-entry
invariant-loop-entry l = list_any has_contained_target (drop l.entry-index l.types) ≡ list_any has_contained_target l.types
