use Rattle.fhir_schema.specs.Schemas.{schema_of}
use Rattle.fhir_contradictions.proofs.Asked.{meets}
use Rattle.fhir_contradictions.proofs.Required.{none_lacks, no_slice_lacks}
use Rattle.fhir_contradictions.proofs.typing_laws.required_types.Goals as goal

pub returns-clause-element : goal.returns-clause-element
returns-clause-element c p meaning around x by n h slot apart typed held among lacks conforms =
    let s = schema_of p in
    none_lacks s (c.least_closed.ensures.placed p) (c.covering_codes.ensures.alone s) meaning around x by n apart typed (meets s meaning around x n conforms)
    h slot held among lacks

pub returns-clause-slice : goal.returns-clause-slice
returns-clause-slice c p meaning around x by n h slot slice apart typed held among one lacks conforms =
    let s = schema_of p in
    no_slice_lacks s (c.least_closed.ensures.placed p) (c.covering_codes.ensures.alone s) meaning around x by n apart typed (meets s meaning around x n conforms)
    h slot slice held among one lacks
