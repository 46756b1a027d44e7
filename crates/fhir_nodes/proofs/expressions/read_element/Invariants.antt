use Rattle.std.proofs.Common.{◌≡◌, map, take}
use Rattle.fhir_nodes.specs.Expressions.{expression_of}
use Rattle.fhir_nodes.specs.Readings.{shared_seen}
use Rattle.fhir_nodes.proofs.expressions.read_element.Given as goal

abbrev pub invariant-loop-constraint : goal.invariant-loop-constraint
invariant-loop-constraint l = map shared_seen l.expressions.items ≡ map expression_of (take l.constraint-index l.constraint-items)
