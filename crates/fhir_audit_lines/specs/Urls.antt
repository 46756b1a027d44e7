-- The urls of certificates (used by private contracts alone).
use Rattle.std.specs.Prelude.{◌≡◌, ◌&&◌, List, map, not, Bool, false}
use Rattle.std.specs.Borrow.{Bor}
use Rattle.std.specs.BTreeSet.{BTreeSet}
use Rattle.std.specs.List.{filter, list_any}
use Rattle.std.specs.Option.{option_map_or}
use Rattle.std.specs.Str.{bytes_eq}
use Rattle.fhir_json.specs.Tree.{Text}
use Rattle.fhir_words.specs.declared.request.Format.{Format}
use Rattle.fhir_audit.specs.Auditing.{AuditedValue}
use Rattle.fhir_audit_lines.specs.Held.{HeldValue, is_of, without_line}

-- a set has the two urls
abbrev pub has_urls : Text → Text → BTreeSet (Bor Text × Bor Text) → Bool
has_urls url base set = list_any (λ (urls : Bor Text × Bor Text). bytes_eq url urls.0.now && bytes_eq base urls.1.now) set.keys

-- it has those of each certificate, and no others
abbrev pub AreUrls : List HeldValue → BTreeSet (Bor Text × Bor Text) → Type 0
AreUrls held set = (url base : Text) → has_urls url base set ≡ list_any (is_of url base) held

-- it has the urls of a profile and of its base
abbrev pub has_urls_of : BTreeSet (Bor Text × Bor Text) → AuditedValue → Bool
has_urls_of set a = option_map_or (λ base. has_urls a.url base set) a.base false

-- the lines on those of which it has none
abbrev pub missing_lines : Format → BTreeSet (Bor Text × Bor Text) → List AuditedValue → List Text
missing_lines format set told = map (λ a. without_line format a.url) (filter (λ a. not (has_urls_of set a)) told)
