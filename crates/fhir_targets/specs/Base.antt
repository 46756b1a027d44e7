-- The targets of a base, in an order (used by private contracts alone).
use Rattle.std.specs.Prelude.{◌≡◌, ℕ, List, Bool, false}
use Rattle.std.specs.Borrow.{Bor}
use Rattle.std.specs.BTreeMap.{BTreeMap}
use Rattle.std.specs.BTreeSet.{BTreeSet}
use Rattle.std.specs.List.{list_any}
use Rattle.std.specs.Option.{option_map_or}
use Rattle.std.specs.Str.{bytes_eq}
use Rattle.fhir_json.specs.Tree.{Text}
use Rattle.fhir_schema.specs.Covers.{covers}
use Rattle.fhir_schema.specs.Schemas.{SchemaValue}
use Rattle.fhir_facets.specs.Targets.{target_type}
use Rattle.fhir_targets.specs.declared.base.BaseTargets.{BaseTargets}
use Rattle.fhir_targets.specs.Texts.{has_text}
use Rattle.fhir_targets.specs.Chains.{code_at, AreReaching}

-- a target names the type of the code
abbrev pub names_code : SchemaValue → Text → Text → Bool
names_code s code target = option_map_or (bytes_eq code) (target_type s target) false

-- one of the targets does
abbrev pub has_code : SchemaValue → List Text → Text → Bool
has_code s targets code = list_any (names_code s code) targets

-- one of the targets names a type that covers that of the code
abbrev pub is_covered : SchemaValue → List Text → Text → Bool
is_covered s targets code = list_any (λ t. option_map_or (λ c. covers s c code) (target_type s t) false) targets

abbrev pub AreTexts : List Text → BTreeSet (Bor Text) → Type 0
AreTexts targets texts = (text : Text) → has_text text texts ≡ list_any (bytes_eq text) targets

abbrev pub AreCodes : SchemaValue → List Text → BTreeSet (Bor Text) → Type 0
AreCodes s targets codes = (code : Text) → has_text code codes ≡ has_code s targets code

abbrev pub ArePlaces : SchemaValue → List Text → BTreeMap ℕ (Bor Text) → Type 0
ArePlaces s targets places = AreReaching s.definitions (has_code s targets) (code_at places)

pub record AreOf (s : SchemaValue) (targets : List Text) (base : BaseTargets) : Type 0 where
  pub texts : AreTexts targets base.texts
  pub codes : AreCodes s targets base.codes
  pub places : ArePlaces s targets base.places
