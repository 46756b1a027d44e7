use Rattle.std.proofs.Common.{◌<◌, length, Some, refl, ap, sym, ◌∙◌, arith}
use Rattle.std.specs.Option.{option_map}
use Rattle.std.specs.List.{list_all}
use Rattle.fhir_elements.specs.Causes.{reason_of, reason_unless}
use Rattle.fhir_elements.specs.declared.reason.Reason.TheVariants.{MissingContent}
use Rattle.fhir_schema.specs.Settling.{target_is_usable}
use Rattle.fhir_schema.specs.Blaming.{reasons_of}
use Rattle.fhir_schema.proofs.Blamed.{unless_all}
use Rattle.fhir_schema.proofs.types.targets_blame.Goals as goal

pub returns-in-Some-clause-reason : goal.returns-in-Some-clause-reason
returns-in-Some-clause-reason c =
    let items = c.elements-element-items.result.now in
    let test = target_is_usable c.args.table.now (reasons_of c.args.blames.now) c.args.definition.now in
    let within : c.loop-place.place < length items = omega arith in
    ap (λ x. Some (reason_of x)) c.at.ensures.cause
    ∙ unless_all test items c.loop-place.place c.element-item.result MissingContent (Some (reason_of c.in-Some.cause)) within c.element-item.is refl
    (ap (option_map reason_of) (sym c.in-Some.is) ∙ c.target_cause.ensures)
    ∙ ap (λ l. reason_unless (list_all test l) MissingContent) c.elements-element-items.ensures
