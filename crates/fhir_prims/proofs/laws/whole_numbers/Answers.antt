use Rattle.fhir_prims.proofs.Whole.{integer_is, unsigned_is, positive_is}
use Rattle.fhir_prims.proofs.laws.whole_numbers.Goals as goal

pub returns-clause-integer : goal.returns-clause-integer
returns-clause-integer c = integer_is

pub returns-clause-unsigned_int : goal.returns-clause-unsigned_int
returns-clause-unsigned_int c = unsigned_is

pub returns-clause-positive_int : goal.returns-clause-positive_int
returns-clause-positive_int c = positive_is
