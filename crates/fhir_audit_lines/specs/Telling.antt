-- What an audit tells in text: the lines on each profile.
use Rattle.std.specs.Prelude.{◌≡◌, List, [], ◌∷◌, ◌++◌, map, flat_map, Bool, false, codes, if◌then◌else◌}
use Rattle.std.specs.Option.{option_map_or}
use Rattle.std.specs.Str.Lossy.{utf8_lossy}
use Rattle.fhir_json.specs.Tree.{Text}
use Rattle.fhir_nodes.specs.Types.{names_resource}
use Rattle.fhir_schema.specs.Schemas.{SchemaValue, root}
use Rattle.fhir_schema.specs.Covers.{type_at}
use Rattle.fhir_certificate.specs.Certificate.{CertificateValue}
use Rattle.fhir_certificate.specs.declared.pair.Pair.{Pair}
use Rattle.fhir_cert_check.specs.Rule.{RuleName, rule_text}
use Rattle.fhir_cert_check.specs.Texts.{pair_text}
use Rattle.fhir_derive_check.specs.declared.fault.Side.{Side}
use Rattle.fhir_derive_check.specs.declared.fault.Side.TheVariants.{Derived, Base}
use Rattle.fhir_audit.specs.Auditing.{AuditedValue}
use Rattle.fhir_audit.specs.Verdicts.{VerdictValue, narrows, does_not_narrow, is_not_shown, cannot_be_used, has_no_base}
use Rattle.fhir_audit_words.specs.Words.{verdict_word}
use Rattle.fhir_audit_lines.specs.Words.{pair_count, pairs_text, base_shown}

-- ---- lines

-- a line that belongs to the one above it
abbrev pub under : Text → Text → Text
under word text = codes "  " ++ word ++ text

-- ---- the first line on a profile

abbrev pub narrowing_line : AuditedValue → CertificateValue → Text
narrowing_line a c = a.url ++ codes ": narrows " ++ base_shown a ++ codes " (" ++ pairs_text (pair_count c) ++ codes ")"

-- that a pair fails a rule
abbrev pub failing_line : SchemaValue → Text → Pair → RuleName → Text
failing_line s front pair rule = front ++ codes ": " ++ pair_text s pair ++ codes ": " ++ rule_text rule

abbrev pub verdict_front : AuditedValue → Text
verdict_front a = a.url ++ codes ": " ++ verdict_word a.verdict ++ codes " " ++ base_shown a

-- which of the two can't be used, where that is the base
abbrev pub side_text : AuditedValue → Side → Text
side_text a Derived = []
side_text a Base = codes ": its base " ++ base_shown a

abbrev pub unusable_front : AuditedValue → Side → Text
unusable_front a side = a.url ++ codes ": can't be used" ++ side_text a side

abbrev pub lacking_line : AuditedValue → Text
lacking_line a = a.url ++ codes ": rests on a base that isn't here" ++ option_map_or (λ text. codes ": " ++ text) a.canonical []

-- the first line says the verdict: of one that can't be used why, in words that aren't stated here
abbrev pub IsHead : SchemaValue → AuditedValue → VerdictValue → Text → Type 0
IsHead s a (narrows c) line = line ≡ narrowing_line a c
IsHead s a (does_not_narrow pair rule resource) line = line ≡ failing_line s (verdict_front a) pair rule
IsHead s a (is_not_shown pair rule) line = line ≡ failing_line s (verdict_front a) pair rule
IsHead s a (cannot_be_used side) line = (why : Text) × (line ≡ unusable_front a side ++ why)
IsHead s a has_no_base line = line ≡ lacking_line a

-- ---- the lines below it

-- resources are of the type of the profile at the url
abbrev pub is_of_resource : SchemaValue → Text → Bool
is_of_resource s url = option_map_or (λ n. names_resource s.definitions (type_at s n)) (root s url) false

-- that no counterexample was looked for, where that is so
abbrev pub not_looked_for : SchemaValue → Text → List Text
not_looked_for s url = if is_of_resource s url then [] else under [] (codes "no resource is of this type") ∷ []

-- what both elements say, in words that aren't stated here; the resource that shows it; or that none was looked for
abbrev pub AreDetails : SchemaValue → AuditedValue → VerdictValue → List Text → Type 0
AreDetails s a (narrows c) ls = ls ≡ []
AreDetails s a (does_not_narrow pair rule resource) ls =
    (words : Text) × (ls ≡ under [] words ∷ under (codes "counterexample: ") (utf8_lossy resource) ∷ [])
AreDetails s a (is_not_shown pair rule) ls = (words : Text) × (ls ≡ under [] words ∷ not_looked_for s a.url)
AreDetails s a (cannot_be_used side) ls = ls ≡ []
AreDetails s a has_no_base ls = ls ≡ []

abbrev pub unread_lines : List Text → List Text
unread_lines texts = map (λ text. under (codes "unread: ") text) texts

-- the lines on a profile
pub record IsToldText (s : SchemaValue) (a : AuditedValue) (ls : List Text) : Type 0 where
  pub head : Text
  pub is_head : IsHead s a a.verdict head
  pub details : List Text
  pub are_details : AreDetails s a a.verdict details
  pub lines_are : ls ≡ head ∷ details ++ unread_lines a.unread
