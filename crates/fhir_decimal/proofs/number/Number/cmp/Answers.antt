use Rattle.std.proofs.Common.{ap, ap₂, sym, ◌∙◌}
use Rattle.std.specs.Ordering.{ordering_reverse}
use Rattle.fhir_decimal.specs.Value.{value_of, value_order}
use Rattle.fhir_decimal.specs.Views.{parts_seen}
use Rattle.fhir_decimal.specs.Whole.{count}
use Rattle.fhir_decimal.specs.Numbers.{number_seen}
use Rattle.fhir_decimal.proofs.Counting.{turned_order, counts_order}
use Rattle.fhir_decimal.proofs.number.Number.cmp.Goals as goal

pub returns-in-Count-Written : goal.returns-in-Count-Written
returns-in-Count-Written c =
    c.reverse.ensures
    ∙ ap ordering_reverse c.cmp_count-in-Count-Written.ensures
    ∙ sym (turned_order (count c.in-Count-Written.left) (value_of (parts_seen c.in-Count-Written.right)))
    ∙ ap₂ (λ v w. value_order (number_seen v) (number_seen w)) (sym c.in-Count-Written.is-0) (sym c.in-Count-Written.is-1)

pub returns-in-Count-Count : goal.returns-in-Count-Count
returns-in-Count-Count c =
    c.cmp-in-Count-Count.ensures
    ∙ sym (counts_order c.in-Count-Count.left c.in-Count-Count.right)
    ∙ ap₂ (λ v w. value_order (number_seen v) (number_seen w)) (sym c.in-Count-Count.is-0) (sym c.in-Count-Count.is-1)
