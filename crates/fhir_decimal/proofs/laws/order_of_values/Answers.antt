use Rattle.fhir_decimal.proofs.Order.{total_order, any_scale}
use Rattle.fhir_decimal.proofs.laws.order_of_values.Goals as goal

pub returns-clause-total : goal.returns-clause-total
returns-clause-total c = total_order

pub returns-clause-scale : goal.returns-clause-scale
returns-clause-scale c = any_scale
