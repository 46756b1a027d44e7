use Rattle.std.proofs.Common.{List, ℕ, ap, ◌∙◌}
use Rattle.fhir_decimal.specs.Text.{Parts, unsigned_parts}
use Rattle.fhir_decimal.specs.Value.{value_of, value_order, Value}
use Rattle.fhir_decimal.specs.Views.{parts_seen}
use Rattle.fhir_decimal.proofs.Counting.{count_digits}
use Rattle.fhir_decimal.proofs.counts.cmp_count.Goals as goal

pub returns : goal.returns
returns c =
    let mine = value_of (parts_seen c.args.decimal.now) in
    c.cmp.ensures
    ∙ ap (λ (p : Parts). value_order mine (value_of p)) c.of_digits.ensures
    ∙ ap (λ (f : List ℕ). value_order mine (value_of (unsigned_parts c.digits_of-digits.result f))) c.default.ensures
    ∙ ap (λ (v : Value). value_order mine v) (count_digits c.digits_of-digits.result c.args.number c.digits_of-digits.ensures)
