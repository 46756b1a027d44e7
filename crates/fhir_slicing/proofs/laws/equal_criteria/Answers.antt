use Rattle.fhir_schema.specs.Schemas.{criteria}
use Rattle.fhir_slicing.proofs.Same.{all_same_hold}
use Rattle.fhir_slicing.proofs.laws.equal_criteria.Goals as goal

pub returns : goal.returns
returns c = record {
  same = λ s n m x is.
      all_same_hold c.equivalence.ensures.transitive c.fitting.ensures.transitive c.fitting.ensures.of_equals s x (criteria s n) (criteria s m) is;
}
