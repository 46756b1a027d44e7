use Rattle.std.proofs.Common.{◌≡◌, map, take, string_bytes}
use Rattle.fhir_snapshot.specs.Order.{roots}
use Rattle.fhir_snapshot.proofs.making.roots.Given as goal

abbrev pub invariant-loop-element : goal.invariant-loop-element
invariant-loop-element l = map string_bytes l.ids.items ≡ roots (take l.element-index l.elements)
