use Rattle.std.proofs.Common.{◌≡◌, ◌++◌, ◌∙◌, string_bytes, codes, append_assoc}
use Rattle.fhir_json.specs.Tree.{Text}
use Rattle.fhir_cert_check.specs.Rule.{rule_text}
use Rattle.fhir_cert_check.specs.Views.{rule_name}
use Rattle.fhir_report.proofs.narrowing.comparison_text.Goals as goal

pub returns : goal.returns
returns c =
    let derived : Text = string_bytes c.in_ok-derived.derived in
    let base : Text = string_bytes c.in_ok-base.base in
    let isnt : Text = codes " in the derived profile isn't within " in
    let last : Text = codes " of the base" in
    let told : string_bytes c.in_ok-format.field-0 ≡ rule_text (rule_name c.args.rule) ++ (codes ": " ++ (derived ++ (isnt ++ (base ++ last)))) =
    c.in_ok-format.ensures.ok in
    (derived ++ (isnt ++ (base ++ last)), told ∙ simp append_assoc)
