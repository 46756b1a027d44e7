use Rattle.std.proofs.Common.{◌≡◌, map, take}
use Rattle.fhir_nodes.specs.Expressions.{expressions_in}
use Rattle.fhir_nodes.specs.Readings.{shared_seen}
use Rattle.fhir_nodes.proofs.expressions.read_definition.Given as goal

abbrev pub invariant-loop-element : goal.invariant-loop-element
invariant-loop-element l = map (λ w. map shared_seen w.items) l.lists.items ≡ map expressions_in (take l.element-index l.element-items)
