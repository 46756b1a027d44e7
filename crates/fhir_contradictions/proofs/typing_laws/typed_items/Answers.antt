use Rattle.fhir_schema.specs.Schemas.{schema_of}
use Rattle.fhir_contradictions.proofs.Slotted.{child_of_type}
use Rattle.fhir_contradictions.proofs.Asked.{meets}
use Rattle.fhir_contradictions.proofs.Typed.{child_allowed, typed_child}
use Rattle.fhir_contradictions.proofs.typing_laws.typed_items.Goals as goal

pub returns-clause-below : goal.returns-clause-below
returns-clause-below c p meaning around x y by inside n name apart typed has holds under =
    let s = schema_of p in
    let placed = c.least_closed.ensures.placed p in
    let g = child_of_type s by x name y placed apart typed has in
    typed_child s placed by name y n inside g
    (child_allowed s (c.covering_codes.ensures.alone s) by name y n g (meets s meaning around y n holds).type) under
