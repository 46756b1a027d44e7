-- What the program prints of a pair that fails a rule.
use Rattle.std.specs.Prelude.{◌++◌, codes}
use Rattle.fhir_json.specs.Tree.{Text}
use Rattle.fhir_schema.specs.Schemas.{SchemaValue}
use Rattle.fhir_certificate.specs.declared.pair.Pair.{Pair}
use Rattle.fhir_cert_check.specs.Rule.{RuleName, rule_text}
use Rattle.fhir_cert_check.specs.Texts.{pair_text}
use Rattle.fhir_lines.specs.Lines.{escaped}

-- the pair that fails, and its rule
abbrev pub wrong_words : SchemaValue → Pair → RuleName → Text
wrong_words s pair rule = codes "no: " ++ pair_text s pair ++ codes ": " ++ rule_text rule

-- the same on a line, with the control characters of a package's texts escaped
abbrev pub wrong_text : SchemaValue → Pair → RuleName → Text
wrong_text s pair rule = escaped (wrong_words s pair rule) ++ codes "\n"
