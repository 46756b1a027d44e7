-- The list of unread rules: a file of texts, one a line, with comments for the people who review it.
use Rattle.std.specs.Prelude.{ℕ, List, [], ◌++◌, nat_lt, Option, None, Some, if◌then◌else◌, codes}
use Rattle.std.specs.List.{flat_map}
use Rattle.std.specs.Str.{chars}
use Rattle.fhir_json.specs.Tree.{Text}
use Rattle.fhir_json.specs.Compact.{escape_byte}
use Rattle.fhir_package.specs.Definitions.{Definitions}
use Rattle.fhir_package.specs.Surveying.{Surveyed}
use Rattle.fhir_schema.specs.Schemas.{SchemaValue}
use Rattle.fhir_facets.specs.Unread.{Unread, range, target, profile, binding, expression, constraint}
use Rattle.fhir_findings.specs.Carrying.{Carrier}
use Rattle.fhir_findings.specs.Once.{Told}
use Rattle.fhir_findings.specs.Selecting.{SelectionValue}
use Rattle.fhir_findings.specs.Sentences.{sentence_for}
use Rattle.fhir_lines.specs.Lines.{parts_of, constraint_text, lacks_text, count_text, escaped, escaped_character}
use Rattle.fhir_unread.specs.Sayings.{Saying, all_sayings, said_under}
use Rattle.fhir_unread.specs.Unread.{rule_in, given_text, rules_told}

-- ---- lines

-- a character as it stands in a JSON string (RFC 8259, section 7), where no control character stands as itself
abbrev pub inside_character : ℕ → Text
inside_character c = if nat_lt c 127 then escape_byte c else escaped_character c

-- the inside of a JSON string
abbrev pub inside : Text → Text
inside text = flat_map inside_character (chars text)

-- a line that gives nothing
abbrev pub comment : Text → Text
comment text = codes "# " ++ escaped text ++ codes "\n"

-- a line that gives a text
abbrev pub given_line : Text → Text
given_line text = inside text ++ codes "\n"

-- ---- what is said of a rule

-- of a constraint its key and what it says in words, whether the package lacks what is named, and how many elements carry it
abbrev pub heading : Carrier → Option Text → ℕ → Text
heading c sentence count =
    flat_map (λ part. part ++ codes "; ") (parts_of (constraint_text c.key sentence) ++ parts_of (lacks_text c.lacks)) ++ count_text count

-- a sentence of a constraint without an expression, with its element
abbrev pub saying_text : Saying → Text
saying_text y = y.url ++ codes "#" ++ y.id ++ codes ": " ++ y.human

-- where a rule is a constraint that has no expression, each sentence that is said under its key, since the text covers all of them
abbrev pub sayings_for : Definitions → Option Unread → List Saying
sayings_for p (Some (constraint key)) = said_under key (all_sayings p)
sayings_for p (Some (range property value)) = []
sayings_for p (Some (target canonical)) = []
sayings_for p (Some (profile canonical)) = []
sayings_for p (Some (binding canonical)) = []
sayings_for p (Some (expression text)) = []
sayings_for p None = []

-- and else the sentence of the constraint, if it is one
abbrev pub sentence_shown : Definitions → Carrier → Option Unread → Option Text
sentence_shown p c (Some (constraint key)) = None
sentence_shown p c (Some (range property value)) = sentence_for p c
sentence_shown p c (Some (target canonical)) = sentence_for p c
sentence_shown p c (Some (profile canonical)) = sentence_for p c
sentence_shown p c (Some (binding canonical)) = sentence_for p c
sentence_shown p c (Some (expression text)) = sentence_for p c
sentence_shown p c None = sentence_for p c

-- ---- the list

-- a rule: what is said of it, and its text
abbrev pub entry : Definitions → Told Carrier → Text
entry p t =
    comment (heading t.first (sentence_shown p t.first (rule_in t.first.carried)) t.count)
    ++ flat_map (λ y. comment (saying_text y)) (sayings_for p (rule_in t.first.carried))
    ++ given_line (given_text t.first)

-- those that the selected definitions carry
abbrev pub listing : SelectionValue → SchemaValue → Surveyed → Text
listing selection s survey = flat_map (entry survey.definitions) (rules_told selection s survey)
