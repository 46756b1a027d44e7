use Rattle.std.proofs.Common.{refl}
use Rattle.fhir_fp_values.specs.Equality.{alike, pairs}
use Rattle.fhir_fp_values.specs.Sets.{joined}
use Rattle.fhir_fp_eval.specs.Meaning.{den}
use Rattle.fhirpath_laws.proofs.equality.equality_at_work.Goals as goal

pub returns-clause-turned : goal.returns-clause-turned
unfolding den joined alike pairs
returns-clause-turned c = refl

pub returns-clause-truths : goal.returns-clause-truths
unfolding den joined alike pairs
returns-clause-truths c = refl
