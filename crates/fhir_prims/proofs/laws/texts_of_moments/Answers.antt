use Rattle.fhir_prims.proofs.Told.{which}
use Rattle.fhir_prims.proofs.Types.{types, date_times}
use Rattle.fhir_prims.proofs.laws.texts_of_moments.Goals as goal

pub returns-clause-texts : goal.returns-clause-texts
returns-clause-texts c = which

pub returns-clause-date : goal.returns-clause-date
returns-clause-date c w is = (types w is).date

pub returns-clause-date_time : goal.returns-clause-date_time
returns-clause-date_time c = date_times

pub returns-clause-instant : goal.returns-clause-instant
returns-clause-instant c w is = (types w is).instant

pub returns-clause-time : goal.returns-clause-time
returns-clause-time c w is = (types w is).time
