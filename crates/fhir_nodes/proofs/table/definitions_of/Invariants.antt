use Rattle.std.proofs.Common.{◌≡◌, ◌++◌, drop}
use Rattle.fhir_definition.specs.Definition.{definitions_from}
use Rattle.fhir_nodes.proofs.table.definitions_of.Given as goal

abbrev pub invariant-loop-place : goal.invariant-loop-place
invariant-loop-place l =
    (l.definitions.items ++ definitions_from l.place (drop l.place l.from.structure_definitions)) ≡ definitions_from 0 l.from.structure_definitions
