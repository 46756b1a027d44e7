use Rattle.std.proofs.Common.{refl}
use Rattle.fhir_fp_eval.specs.Meaning.{den}
use Rattle.fhirpath_laws.proofs.Ordered.{no_order}
use Rattle.fhirpath_laws.proofs.comparisons.comparisons_by_order.Goals as goal

pub returns-clause-less : goal.returns-clause-less
unfolding den
returns-clause-less c w a b x v u order h k o = rw (h, k, o) refl

pub returns-clause-at_most : goal.returns-clause-at_most
unfolding den
returns-clause-at_most c w a b x v u order h k o = rw (h, k, o) refl

pub returns-clause-greater : goal.returns-clause-greater
unfolding den
returns-clause-greater c w a b x v u order h k o = rw (h, k, o) refl

pub returns-clause-at_least : goal.returns-clause-at_least
unfolding den
returns-clause-at_least c w a b x v u order h k o = rw (h, k, o) refl

pub returns-clause-undecided : goal.returns-clause-undecided
returns-clause-undecided c = no_order
