use Rattle.std.proofs.Common.{refl}
use Rattle.std.specs.Str.{chars}
use Rattle.fhir_decimal.specs.Reading.{parts}
use Rattle.fhir_decimal.specs.Value.{value_of, value_order}
use Rattle.fhir_facets.proofs.worked.examples.Goals as goal

pub returns-clause-least : goal.returns-clause-least
unfolding parts value_of value_order
returns-clause-least c m = refl

pub returns-clause-equal : goal.returns-clause-equal
unfolding parts value_of value_order
returns-clause-equal c m = refl

pub returns-clause-most : goal.returns-clause-most
unfolding parts value_of value_order
returns-clause-most c m = refl

pub returns-clause-more : goal.returns-clause-more
unfolding parts value_of value_order
returns-clause-more c m = refl

pub returns-clause-time : goal.returns-clause-time
unfolding parts value_of value_order
returns-clause-time c m = refl

pub returns-clause-short : goal.returns-clause-short
unfolding chars
returns-clause-short c = refl

pub returns-clause-long : goal.returns-clause-long
unfolding chars
returns-clause-long c = refl
