use Rattle.std.proofs.Common.{◌≡◌, false, length}
use Rattle.std.specs.List.{list_any, range_with_len}
use Rattle.fhir_contradictions.specs.Regular.{element_types_inline}
use Rattle.fhir_contradictions.proofs.regular.some_types_inline.Given as goal

abbrev pub invariant-loop-element : goal.invariant-loop-element
invariant-loop-element l =
    (list_any (element_types_inline l.schema l.definition) (range_with_len 0 l.element) ≡ false) × (l.element-end ≡ length l.definition.elements)
