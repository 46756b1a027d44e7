use Rattle.fhir_instance.specs.Items.{item}
use Rattle.fhir_conformance.specs.Conformance.{meaning_at, resource_at, inside, kid_tests}
use Rattle.fhir_contradictions.proofs.Together.{not_too_many}
use Rattle.fhir_contradictions.proofs.laws.slices_together.Goals as goal

pub returns : goal.returns
returns c s meaning around (item type json kids) n h slot is among named many holds =
    let x = item type json kids in
    not_too_many s (meaning_at meaning around) (resource_at s around x) x (kid_tests s meaning (inside s around x) 0 kids) n h slot is among named many holds
