use Rattle.std.proofs.Common.{ap, sym, ◌∙◌}
use Rattle.fhir_decimal.specs.Whole.{is_whole_value}
use Rattle.fhir_decimal.specs.Numbers.{number_seen}
use Rattle.fhir_decimal.proofs.Whole.{count_whole}
use Rattle.fhir_decimal.proofs.number.Number.is_whole.Goals as goal

pub returns-in-Count : goal.returns-in-Count
returns-in-Count c = sym (count_whole c.in-Count.field-0) ∙ ap (λ v. is_whole_value (number_seen v)) (sym c.in-Count.is)
