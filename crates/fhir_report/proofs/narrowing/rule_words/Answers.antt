use Rattle.std.proofs.Common.{◌≡◌, ◌++◌, ◌∙◌, string_bytes, codes, append_assoc}
use Rattle.fhir_cert_check.specs.Rule.{rule_text}
use Rattle.fhir_cert_check.specs.Views.{rule_name}
use Rattle.fhir_report.proofs.narrowing.rule_words.Goals as goal

pub returns-in_ok-format-in-Lacking : goal.returns-in_ok-format-in-Lacking
returns-in_ok-format-in-Lacking c =
    let told : string_bytes c.in_ok-format-in-Lacking.field-0 ≡ rule_text (rule_name c.args.rule) ++ (codes ": " ++ c.in-Lacking.text.now) =
    c.in_ok-format-in-Lacking.ensures.ok in
    (c.in-Lacking.text.now, told ∙ simp append_assoc)
