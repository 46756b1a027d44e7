use Rattle.std.proofs.Common.{◌<◌, ℕ, sym, ◌∙◌, subst, length}
use Rattle.fhir_contradictions.specs.Regular.{element_types_inline}
use Rattle.fhir_contradictions.proofs.Counted.{none_counted_more, some_counted}
use Rattle.fhir_contradictions.proofs.regular.some_types_inline.Goals as goal

pub returns-then-element_types_inline : goal.returns-then-element_types_inline
returns-then-element_types_inline c =
    sym (some_counted (element_types_inline c.args.schema.now c.args.definition.now) (length c.args.definition.now.elements) c.loop-element.element
    (subst (λ (n : ℕ). c.loop-element.element < n) c.loop-element.invariant.1 c.loop-element-test.true)
    (sym c.element_types_inline.ensures ∙ c.if-element_types_inline.true))

pub loop-element-preserved : goal.loop-element-preserved
loop-element-preserved c = (
  none_counted_more (element_types_inline c.args.schema.now c.args.definition.now) c.loop-element.element c.loop-element.invariant.0
      (sym c.element_types_inline.ensures ∙ c.if-element_types_inline.false),
  c.loop-element.invariant.1,
)
