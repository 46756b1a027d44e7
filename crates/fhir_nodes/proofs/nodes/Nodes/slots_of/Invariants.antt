use Rattle.std.proofs.Common.{◌≡◌, map, take}
use Rattle.fhir_nodes.specs.Slots.{slots_of}
use Rattle.fhir_nodes.proofs.nodes.Nodes.slots_of.Given as goal

abbrev pub invariant-loop-definition : goal.invariant-loop-definition
invariant-loop-definition l = map (λ v. v.items) l.slots.items ≡ map (slots_of l.table) (take l.definition-index l.definition-items)
