-- The unread rules of a package, each text once.
use Rattle.std.specs.Prelude.{List, [], map, filter, Bool, Option, None, Some, is_some}
use Rattle.std.specs.Option.{option_map_or}
use Rattle.fhir_json.specs.Tree.{Text}
use Rattle.fhir_package.specs.Surveying.{Surveyed}
use Rattle.fhir_schema.specs.Schemas.{SchemaValue}
use Rattle.fhir_facets.specs.Unread.{Unread, unread_text}
use Rattle.fhir_findings.specs.Carrying.{Carried, rule, base, Carrier, text_of, all_carriers}
use Rattle.fhir_findings.specs.Once.{Told, told_once}
use Rattle.fhir_findings.specs.Selecting.{SelectionValue}

-- the rule that is carried, where it is no base that is lacking
abbrev pub rule_in : Carried → Option Unread
rule_in (rule u) = Some u
rule_in (base canonical) = None

abbrev pub is_rule : Carrier → Bool
is_rule c = is_some (rule_in c.carried)

-- its text, as a user gives it
abbrev pub given_text : Carrier → Text
given_text c = option_map_or unread_text (rule_in c.carried) []

-- the rules that the selected definitions carry, each text once: the first element that carries it, and how many do
abbrev pub rules_told : SelectionValue → SchemaValue → Surveyed → List (Told Carrier)
rules_told selection s survey = filter (λ t. is_rule t.first) (told_once text_of (all_carriers selection s survey))

-- their texts
abbrev pub unread_texts : SelectionValue → SchemaValue → Surveyed → List Text
unread_texts selection s survey = map (λ t. given_text t.first) (rules_told selection s survey)
