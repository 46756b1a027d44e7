use Rattle.std.proofs.Common.{◌<◌, length, Some, refl, ap, sym, ◌∙◌, arith}
use Rattle.std.specs.Option.{option_map}
use Rattle.fhir_elements.specs.Causes.{reason_of}
use Rattle.fhir_elements.specs.declared.reason.Reason.TheVariants.{UnusableType}
use Rattle.fhir_schema.specs.Settling.{element_is_usable}
use Rattle.fhir_schema.specs.Blaming.{reasons_of}
use Rattle.fhir_schema.proofs.Blamed.{unless_all}
use Rattle.fhir_schema.proofs.types.elements_blame.Goals as goal

pub returns-in-Some-clause-reason : goal.returns-in-Some-clause-reason
returns-in-Some-clause-reason c =
    let within : c.loop-place.place < length c.args.elements.now = omega arith in
    ap (λ x. Some (reason_of x)) c.at.ensures.cause
    ∙ unless_all (element_is_usable c.args.table.now (reasons_of c.args.blames.now)) c.args.elements.now c.loop-place.place c.index-elements-place.result
    UnusableType (Some (reason_of c.in-Some.cause)) within c.index-elements-place.is refl
    (ap (option_map reason_of) (sym c.in-Some.is) ∙ c.element_cause.ensures)
