use Rattle.std.proofs.Common.{◌≡◌, map, take}
use Rattle.fhir_nodes.specs.Slots.{slices_of}
use Rattle.fhir_nodes.proofs.nodes.Nodes.slices_of.Given as goal

abbrev pub invariant-loop-definition : goal.invariant-loop-definition
invariant-loop-definition l = map (λ v. v.items) l.slots.items ≡ map (λ d. slices_of d.elements) (take l.definition-index l.definition-items)
