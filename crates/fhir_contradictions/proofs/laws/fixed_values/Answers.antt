use Rattle.fhir_contradictions.proofs.Asked.{meets}
use Rattle.fhir_contradictions.proofs.FixedRefused.{none_refused}
use Rattle.fhir_contradictions.proofs.laws.fixed_values.Goals as goal

pub returns : goal.returns
returns c s meaning around x n f sounds has conforms =
    none_refused c.covering_codes.ensures.alone c.fitting.ensures.equal_values c.positive.ensures.range c.positive.ensures.binding s meaning around x n f sounds
    (meets s meaning around x n conforms) has
