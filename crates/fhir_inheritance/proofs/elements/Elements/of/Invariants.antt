use Rattle.std.proofs.Common.{take}
use Rattle.fhir_inheritance.specs.Elements.{IsKept}
use Rattle.fhir_inheritance.proofs.elements.Elements.of.Given as goal

abbrev pub invariant-loop-place : goal.invariant-loop-place
invariant-loop-place l = IsKept (take l.place l.fn.elements.items) l.ids l.children l.slices l.sliced
