use Rattle.fhir_codes.proofs.Members.{has-union_of, has-common, has-of_system}
use Rattle.fhir_codes.proofs.laws.algebra.Goals as goal

pub returns : goal.returns
returns c = record { union_of = has-union_of; common = has-common; of_system = has-of_system }
