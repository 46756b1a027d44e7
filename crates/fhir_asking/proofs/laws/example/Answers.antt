use Rattle.std.proofs.Common.{refl}
use Rattle.fhir_asking.proofs.Meaning.{ring}
use Rattle.fhir_asking.proofs.laws.example.Goals as goal

pub returns-clause-chain : goal.returns-clause-chain
returns-clause-chain c = (3, refl)

pub returns-clause-ring : goal.returns-clause-ring
returns-clause-ring c = λ bound. (ring bound).0
