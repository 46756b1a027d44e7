use Rattle.std.proofs.Common.{◌≡◌, take}
use Rattle.fhir_snapshot.proofs.making.all_copied.Given as goal

abbrev pub invariant-loop-element : goal.invariant-loop-element
invariant-loop-element l = l.all.items ≡ take l.element-index l.elements
