use Rattle.std.proofs.Common.{sym, ◌∙◌, ap, is_none}
use Rattle.fhir_elements.specs.declared.reason.Reason.TheVariants.{WrongField, MinOverMax, RepeatedType}
use Rattle.fhir_elements.specs.TypeEntry.{codes_differ}
use Rattle.fhir_elements.proofs.FirstFound.{none_passed, first_found, second_found, third_found, rest_found}
use Rattle.fhir_elements.proofs.element.element_cause.Goals as goal

pub returns-in-Some : goal.returns-in-Some
returns-in-Some c = first_found _ WrongField _ _ c.in-Some.ensures

pub returns-then-not-has_right_bounds : goal.returns-then-not-has_right_bounds
returns-then-not-has_right_bounds c =
    second_found _ _ WrongField MinOverMax _ (none_passed _ WrongField c.in_default.ensures)
    (sym c.has_right_bounds.ensures ∙ c.if-not-has_right_bounds.true)

pub returns-in-Some-2 : goal.returns-in-Some-2
returns-in-Some-2 c =
    third_found _ _ _ WrongField MinOverMax RepeatedType _ (none_passed _ WrongField c.in_default.ensures)
    (sym c.has_right_bounds.ensures ∙ c.if-not-has_right_bounds.false)
    (ap codes_differ (sym c.items_in.ensures) ∙ sym c.in_ok-place.ensures ∙ ap is_none c.in-Some-2.is)

pub returns : goal.returns
returns c =
    rest_found _ _ _ WrongField MinOverMax RepeatedType _ _ (none_passed _ WrongField c.in_default.ensures)
    (sym c.has_right_bounds.ensures ∙ c.if-not-has_right_bounds.false)
    (ap codes_differ (sym c.items_in.ensures) ∙ sym c.in_ok-place.ensures ∙ ap is_none c.in_default-2.is)
    c.wrong_id.ensures
