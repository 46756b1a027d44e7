use Rattle.std.proofs.Common.{ap, sym, ◌∙◌}
use Rattle.fhir_json.specs.Views.{tree_of}
use Rattle.fhir_elements.specs.declared.reason.Reason.TheVariants.{WrongField}
use Rattle.fhir_elements.specs.Causes.{reason_unless}
use Rattle.fhir_elements.proofs.FirstFound.{none_passed}
use Rattle.fhir_definition.proofs.Blamed.{failed}
use Rattle.fhir_definition.proofs.RightHead.{needed_wrong, optional_wrong, head_right}
use Rattle.fhir_definition.proofs.head.head_cause.Goals as goal

pub returns-in-Some : goal.returns-in-Some
returns-in-Some c =
    let no = failed _ WrongField _ c.in-Some.ensures in
    c.in-Some.ensures
    ∙ ap (λ b. reason_unless b WrongField) (no ∙ sym (needed_wrong c.args.url.now (tree_of c.args.json.now) no))

pub returns-in-Some-wrong_optional : goal.returns-in-Some-wrong_optional
returns-in-Some-wrong_optional c =
    sym (ap (λ b. reason_unless b WrongField)
    (optional_wrong c.args.url.now (tree_of c.args.json.now) (sym c.in-Some-wrong_optional.ensures)))

pub returns : goal.returns
returns c =
    sym (ap (λ b. reason_unless b WrongField)
    (head_right c.args.url.now (tree_of c.args.json.now) (sym c.is_uri.ensures ∙ c.if-not-is_uri.false)
    (none_passed _ WrongField c.in_default.ensures) (sym c.in_default-wrong_optional.ensures)
    (sym c.is_known_if_primitive.ensures ∙ c.if-not-is_known_if_primitive.false)))
