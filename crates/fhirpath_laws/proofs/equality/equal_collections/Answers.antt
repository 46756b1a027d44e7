use Rattle.std.proofs.Common.{◌≡◌, suc, ◌∷◌, length, ap, arith}
use Rattle.std.specs.Prelude.{Ok}
use Rattle.fhir_fp_values.specs.Equality.{Kleene, equality, pairs}
use Rattle.fhir_fp_eval.specs.Meaning.{Found, den, answer}
use Rattle.fhirpath_laws.proofs.Pairwise.{pairs_alike, alike_pairs, other_numbers, told_apart, told_true, not_answered}
use Rattle.fhirpath_laws.proofs.equality.equal_collections.Goals as goal

answered : Kleene → Found
answered p = Ok (answer p)

pub returns-clause-equal : goal.returns-clause-equal
unfolding den answered
returns-clause-equal c w a b x v u vs us h k =
    rw (h, k) (
      λ e.
          let both = pairs_alike (v ∷ vs) (u ∷ us) (told_true (pairs (v ∷ vs) (u ∷ us)) e) in
          let longer : suc (length vs) ≡ suc (length us) = both.0 in
          let as_long : length vs ≡ length us = omega arith in
          (as_long, both.1),
      λ both. ap answered (alike_pairs (v ∷ vs) (u ∷ us) (ap suc both.0) both.1),
    )

pub returns-clause-numbers : goal.returns-clause-numbers
unfolding den answered
returns-clause-numbers c w a b x v u vs us h k other =
    rw (h, k)
    (ap answered (other_numbers (v ∷ vs) (u ∷ us) (λ (e : suc (length vs) ≡ suc (length us)).
    let as_long : length vs ≡ length us = omega arith in
    other as_long)))

pub returns-clause-apart : goal.returns-clause-apart
unfolding den answered
returns-clause-apart c w a b x v u vs us h k told = rw (h, k) (ap answered (told_apart (v ∷ vs) (u ∷ us) told))

pub returns-clause-other : goal.returns-clause-other
unfolding den
returns-clause-other c w a b x vs us h k = rw (h, k) (not_answered (equality vs us))
