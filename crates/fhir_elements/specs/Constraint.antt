-- The constraints of an element (FHIR R4, ElementDefinition, constraint).
use Rattle.std.specs.Prelude.{Bool, true, false, ◌&&◌, Option, is_some, codes, None, Some, if◌then◌else◌}
use Rattle.std.specs.Option.{option_map_or}
use Rattle.std.specs.Str.{bytes_eq}
use Rattle.fhir_json.specs.Tree.{Text, Tree}
use Rattle.fhir_json.specs.Fields.{is_object, text_in, text_at, allows_text}
use Rattle.fhir_elements.specs.declared.constraint.Severity.{Severity}
use Rattle.fhir_elements.specs.Codes.{code_in, allows_code}
use Rattle.fhir_elements.specs.declared.constraint.Severity.TheVariants as severities

abbrev pub severity_of : Text → Option Severity
severity_of s =
    if bytes_eq s (codes "error") then Some severities.Error
    else (if bytes_eq s (codes "warning") then Some severities.Warning else None)

pub record Constraint : Type 0 where
  pub key : Text
  pub severity : Option Severity
  pub expression : Option Text

abbrev pub is_error : Severity → Bool
is_error severities.Error = true
is_error severities.Warning = false

-- a resource for which it isn't true doesn't conform
abbrev pub must_hold : Constraint → Bool
must_hold c = option_map_or is_error c.severity false

abbrev pub is_constraint : Tree → Bool
is_constraint t =
    is_object t
    && is_some (text_in (codes "key") t)
    && allows_code severity_of (codes "severity") t
    && allows_text (codes "expression") t

abbrev pub constraint_of : Tree → Constraint
constraint_of t = record {
  key = text_at (codes "key") t;
  severity = code_in severity_of (codes "severity") t;
  expression = text_in (codes "expression") t;
}
