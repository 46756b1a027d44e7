use Rattle.std.proofs.Common.{Ok, [], ◌∷◌, refl, ap}
use Rattle.fhir_fp_values.specs.Values.{truth}
use Rattle.fhir_fp_eval.specs.Meaning.{den, of_types}
use Rattle.fhir_fp_eval.proofs.laws.type_tests.Goals as goal

pub returns-clause-is_of : goal.returns-clause-is_of
unfolding den
returns-clause-is_of c w x type h = ap (λ b. Ok (truth b ∷ [])) h

pub returns-clause-is_other : goal.returns-clause-is_other
unfolding den
returns-clause-is_other c w x type h = ap (λ b. Ok (truth b ∷ [])) h

pub returns-clause-of_type : goal.returns-clause-of_type
unfolding den of_types
returns-clause-of_type c w x type h = rw h refl

pub returns-clause-cast : goal.returns-clause-cast
unfolding den of_types
returns-clause-cast c w x type h = rw h refl
