use Rattle.fhir_schema.specs.Schemas.{schema_of}
use Rattle.fhir_contradictions.proofs.Slotted.{child_of_type, code_under}
use Rattle.fhir_contradictions.proofs.Asked.{meets}
use Rattle.fhir_contradictions.proofs.FixedKept.{no_fixed_misses}
use Rattle.fhir_contradictions.proofs.typing_laws.fixed_types.Goals as goal

pub returns : goal.returns
returns c p meaning around x y by n name apart typed has misses conforms =
    let s = schema_of p in
    let g = child_of_type s by x name y (c.least_closed.ensures.placed p) apart typed has in
    no_fixed_misses s (c.covering_codes.ensures.alone s) meaning around by name y n g (code_under s by name y g) (meets s meaning around y n conforms) misses
