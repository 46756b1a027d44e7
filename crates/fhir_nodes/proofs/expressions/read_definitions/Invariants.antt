use Rattle.std.proofs.Common.{◌≡◌, map, take}
use Rattle.fhir_nodes.specs.Expressions.{expressions_of}
use Rattle.fhir_nodes.specs.Readings.{lists_read}
use Rattle.fhir_nodes.proofs.expressions.read_definitions.Given as goal

abbrev pub invariant-loop-definition : goal.invariant-loop-definition
invariant-loop-definition l = lists_read l.lists.items ≡ map expressions_of (take l.definition-index l.definition-items)
