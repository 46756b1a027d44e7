use Rattle.std.proofs.Common.{[], ◌∷◌, refl}
use Rattle.fhir_fp_eval.specs.Meaning.{den}
use Rattle.further_laws.proofs.collections.equality_of_nothing.Goals as goal

pub returns-clause-equal_left : goal.returns-clause-equal_left
unfolding den
returns-clause-equal_left c w a b x us h k = rw (h, k) refl

pub returns-clause-equal_right : goal.returns-clause-equal_right
unfolding den
returns-clause-equal_right c w a b x [] h k = rw (h, k) refl
returns-clause-equal_right c w a b x (v ∷ vs) h k = rw (h, k) refl

pub returns-clause-other_left : goal.returns-clause-other_left
unfolding den
returns-clause-other_left c w a b x us h k = rw (h, k) refl

pub returns-clause-other_right : goal.returns-clause-other_right
unfolding den
returns-clause-other_right c w a b x [] h k = rw (h, k) refl
returns-clause-other_right c w a b x (v ∷ vs) h k = rw (h, k) refl
