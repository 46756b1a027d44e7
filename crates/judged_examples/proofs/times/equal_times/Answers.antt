use Rattle.std.proofs.Common.{refl}
use Rattle.fhir_decimal.specs.Reading.{parts}
use Rattle.fhir_decimal.specs.Value.{value_of, value_order}
use Rattle.fhir_fp_values.specs.Equality.{alike, pairs}
use Rattle.fhir_fp_eval.specs.Meaning.{den}
use Rattle.judged_examples.proofs.times.equal_times.Goals as goal

pub returns-clause-same : goal.returns-clause-same
unfolding den alike pairs parts value_of value_order
returns-clause-same c = refl

pub returns-clause-later : goal.returns-clause-later
unfolding den alike pairs parts value_of value_order
returns-clause-later c = refl

pub returns-clause-other : goal.returns-clause-other
unfolding den alike pairs parts value_of value_order
returns-clause-other c = refl
