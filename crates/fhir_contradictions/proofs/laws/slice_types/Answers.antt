use Rattle.fhir_instance.specs.Items.{item}
use Rattle.fhir_conformance.specs.Conformance.{meaning_at, resource_at, inside, kid_tests}
use Rattle.fhir_contradictions.proofs.SliceTypes.{none_of_both}
use Rattle.fhir_contradictions.proofs.laws.slice_types.Goals as goal

pub returns : goal.returns
returns c s meaning around (item type json kids) n slice others at_n at_slice =
    let x = item type json kids in
    none_of_both s (c.covering_codes.ensures.alone s) (meaning_at meaning around) (resource_at s around x) x (kid_tests s meaning (inside s around x) 0 kids) n slice others
    at_n at_slice
