use Rattle.std.proofs.Common.{ap}
use Rattle.std.specs.Prelude.{Ok}
use Rattle.fhir_fp_eval.specs.Meaning.{den}
use Rattle.fhirpath_laws.proofs.Onward.{named_on, all_on, deep_on, of_their_type}
use Rattle.fhirpath_laws.proofs.paths.paths_of_each.Goals as goal

pub returns-clause-names : goal.returns-clause-names
unfolding den
returns-clause-names c w a name x vs h = rw (h) (ap Ok (named_on name vs))

pub returns-clause-children : goal.returns-clause-children
unfolding den
returns-clause-children c w a x vs h = rw (h) (ap Ok (all_on vs))

pub returns-clause-descendants : goal.returns-clause-descendants
unfolding den
returns-clause-descendants c w a x vs h = rw (h) (ap Ok (deep_on vs))

pub returns-clause-types : goal.returns-clause-types
unfolding den
returns-clause-types c w a type x vs h = rw (h) (ap Ok (of_their_type w.schema type vs))
