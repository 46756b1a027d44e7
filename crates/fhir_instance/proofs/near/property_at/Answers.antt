use Rattle.std.proofs.Common.{List, sym, subst}
use Rattle.fhir_forms.specs.Forms.{Form}
use Rattle.fhir_schema.specs.Schemas.{forms}
use Rattle.fhir_instance.specs.Near.{HasProperty}
use Rattle.fhir_instance.proofs.Nearby.{near_means}
use Rattle.fhir_instance.proofs.near.property_at.Goals as goal

pub returns-in-Some : goal.returns-in-Some
returns-in-Some c =
    let near = subst (λ (fs : List Form). HasProperty fs c.args.name.now c.in-Some.form) c.requires c.in-Some.ensures in
    sym (near_means (forms c.args.schema.now c.args.node) c.args.name.now c.in-Some.form c.forms_are_apart.ensures near)
