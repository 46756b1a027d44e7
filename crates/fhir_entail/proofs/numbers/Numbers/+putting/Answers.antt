use Rattle.std.proofs.Common.{◌≡◌, Some, sym, ap, ◌∙◌, arith}
use Rattle.fhir_fp_syntax.specs.Expression.{expression_of}
use Rattle.fhir_entail.specs.Numbers.{number_at, shape_of, parts_in, number_in}
use Rattle.fhir_entail.proofs.Numbered.{and_then_is, keeps_parts, two_put}
use Rattle.fhir_entail.proofs.Unlike.{outer, outer_is}
use Rattle.fhir_entail.proofs.numbers.Numbers.+putting.Goals as goal

pub put-returns-clause-put : goal.put-returns-clause-put
put-returns-clause-put t c =
    let e = expression_of c.args.expression.now in
    let m = c.put_parts.new.self.shapes in
    let n = c.put_shape.new.self.shapes in
    let p = c.in_ok-parts.parts in
    and_then_is (λ q. number_at n (shape_of e q)) (parts_in n e) p (keeps_parts m n c.in_ok-number.ensures.extends e p c.in_ok-parts.ensures.parts)
    ∙ ap (number_at n) (sym c.shape_of.ensures)
    ∙ c.in_ok-number.ensures.at

pub put_parts-returns-in_ok-put-in-Filtered-2-clause-parts : goal.put_parts-returns-in_ok-put-in-Filtered-2-clause-parts
put_parts-returns-in_ok-put-in-Filtered-2-clause-parts t c =
    let m = c.put.new.self.shapes in
    let n = c.put-in-Filtered.new.self.shapes in
    let a = expression_of c.in-Filtered.first.value in
    let b = expression_of c.in-Filtered.second.value in
    let first : number_in m a ≡ Some c.in_ok-put-in-Filtered.field-0 = grind (arith, c.deref.ensures, c.in_ok-put-in-Filtered.ensures.put) in
    let second : number_in n b ≡ Some c.in_ok-put-in-Filtered-2.field-0 = grind (arith, c.deref-in-Filtered.ensures, c.in_ok-put-in-Filtered-2.ensures.put) in
    ap (parts_in n) (outer_is c.args.expression.now ∙ ap outer c.in-Filtered.is)
    ∙ two_put m n c.in_ok-put-in-Filtered-2.ensures.extends a b c.in_ok-put-in-Filtered.field-0 c.in_ok-put-in-Filtered-2.field-0 first second

pub put_parts-returns-in_ok-put-in-Binary-2-clause-parts : goal.put_parts-returns-in_ok-put-in-Binary-2-clause-parts
put_parts-returns-in_ok-put-in-Binary-2-clause-parts t c =
    let m = c.put-in-Binary.new.self.shapes in
    let n = c.put-in-Binary-2.new.self.shapes in
    let a = expression_of c.in-Binary.first.value in
    let b = expression_of c.in-Binary.second.value in
    let first : number_in m a ≡ Some c.in_ok-put-in-Binary.field-0 = grind (arith, c.deref-in-Binary.ensures, c.in_ok-put-in-Binary.ensures.put) in
    let second : number_in n b ≡ Some c.in_ok-put-in-Binary-2.field-0 = grind (arith, c.deref-in-Binary-2.ensures, c.in_ok-put-in-Binary-2.ensures.put) in
    ap (parts_in n) (outer_is c.args.expression.now ∙ ap outer c.in-Binary.is)
    ∙ two_put m n c.in_ok-put-in-Binary-2.ensures.extends a b c.in_ok-put-in-Binary.field-0 c.in_ok-put-in-Binary-2.field-0 first second
