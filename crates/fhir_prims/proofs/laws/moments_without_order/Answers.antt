use Rattle.fhir_prims.proofs.Undecided.{year_open, month_open, day_open, times_apart}
use Rattle.fhir_prims.proofs.laws.moments_without_order.Goals as goal

pub returns-clause-year : goal.returns-clause-year
returns-clause-year c = year_open

pub returns-clause-month : goal.returns-clause-month
returns-clause-month c = month_open

pub returns-clause-day : goal.returns-clause-day
returns-clause-day c = day_open

pub returns-clause-time : goal.returns-clause-time
returns-clause-time c = times_apart
