-- The unread rules that the elements of a definition carry.
use Rattle.std.specs.Prelude.{List, map, filter, Bool, false, not, Option, None, Some}
use Rattle.std.specs.List.{list_any}
use Rattle.std.specs.Str.{bytes_eq}
use Rattle.fhir_json.specs.Tree.{Text}
use Rattle.fhir_package.specs.Surveying.{Surveyed}
use Rattle.fhir_schema.specs.Schemas.{SchemaValue}
use Rattle.fhir_findings.specs.Carrying.{Carrier, text_of, all_carriers}
use Rattle.fhir_findings.specs.Once.{Told, told_once}
use Rattle.fhir_unread.specs.Unread.{is_rule, given_text}

-- what the definition at a url carries, of all that is carried
abbrev pub carriers_of : Text → List Carrier → List Carrier
carriers_of url cs = filter (λ c. bytes_eq url c.url) cs

-- a user vouches for the text
abbrev pub is_given : Option (List Text) → Text → Bool
is_given None text = false
is_given (Some texts) text = list_any (bytes_eq text) texts

-- but for those that a user vouches for
abbrev pub left_of : Option (List Text) → List Text → List Text
left_of given texts = filter (λ text. not (is_given given text)) texts

-- of what is told once the texts of rules, as a user gives them
abbrev pub texts_told : List (Told Carrier) → List Text
texts_told told = map (λ t. given_text t.first) (filter (λ t. is_rule t.first) told)

-- those that the elements of the definition at a url carry, each once, but for those that a user vouches for
abbrev pub unread_of : Option (List Text) → SchemaValue → Surveyed → Text → List Text
unread_of given s survey url = left_of given (texts_told (told_once text_of (carriers_of url (all_carriers None s survey))))
