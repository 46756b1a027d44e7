-- The types of an element (FHIR R4, ElementDefinition, type): whether a tree has their fields, each absent or of its kind, and
-- what they are.
use Rattle.std.specs.Prelude.{List, [], ◌∷◌, Bool, true, not, ◌&&◌, is_some, codes}
use Rattle.std.specs.List.{list_any}
use Rattle.std.specs.Str.{bytes_eq}
use Rattle.fhir_json.specs.Tree.{Text, Tree}
use Rattle.fhir_json.specs.Fields.{is_object, text_in, text_at, texts_in, allows_texts}

-- one of an element's types, with its profiles and target profiles
pub record TypeEntry : Type 0 where
  pub code : Text
  pub profiles : List Text
  pub targets : List Text

abbrev pub is_type_entry : Tree → Bool
is_type_entry t =
    is_object t
    && is_some (text_in (codes "code") t)
    && allows_texts (codes "profile") t
    && allows_texts (codes "targetProfile") t

abbrev pub type_entry_of : Tree → TypeEntry
type_entry_of t = record {
  code = text_at (codes "code") t;
  profiles = texts_in (codes "profile") t;
  targets = texts_in (codes "targetProfile") t;
}

-- one of the types has the code of this one
abbrev pub has_code : Tree → List Tree → Bool
has_code t ts = list_any (λ u. bytes_eq (text_at (codes "code") t) (text_at (codes "code") u)) ts

-- no two have one code
abbrev pub codes_differ : List Tree → Bool
codes_differ [] = true
codes_differ (t ∷ ts) = not (has_code t ts) && codes_differ ts
