use Rattle.std.proofs.Common.{sym, ap, ◌∙◌, List, is_some}
use Rattle.std.specs.Option.{option_and_then}
use Rattle.fhir_forms.specs.Forms.{Form}
use Rattle.fhir_schema.specs.Schemas.{forms}
use Rattle.fhir_instance.specs.Spelled.{where_of_role}
use Rattle.fhir_instance.proofs.Meanings.{property_meant_found}
use Rattle.fhir_instance.proofs.spelled.property_meant.Goals as goal

pub returns-in-Some-clause-found : goal.returns-in-Some-clause-found
returns-in-Some-clause-found c =
    let fs = forms c.args.schema.now c.args.node in
    ap is_some (c.where_of_role.ensures ∙ ap (λ (es : List Form). where_of_role c.args.role es c.in-Some.property) c.requires
    ∙ ap (option_and_then (where_of_role c.args.role fs)) (sym c.in-Some.is ∙ c.property_at.ensures))
    ∙ property_meant_found c.args.role fs c.args.name.now c.forms_are_apart.ensures

pub returns-in-None-clause-found : goal.returns-in-None-clause-found
returns-in-None-clause-found c =
    let fs = forms c.args.schema.now c.args.node in
    ap (λ o. is_some (option_and_then (where_of_role c.args.role fs) o)) (sym c.in-None.is ∙ c.property_at.ensures)
    ∙ property_meant_found c.args.role fs c.args.name.now c.forms_are_apart.ensures
