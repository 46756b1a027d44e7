-- The codes of types that have been seen so far (used by private contracts alone).
use Rattle.std.specs.Prelude.{◌≡◌, List, is_some, codes}
use Rattle.std.specs.List.{list_any}
use Rattle.std.specs.Str.{bytes_eq}
use Rattle.fhir_json.specs.Tree.{Text, Tree}
use Rattle.fhir_json.specs.Fields.{text_at}
use Rattle.fhir_names.specs.Places.{Places, place_of}

-- exactly the codes of these types have places
abbrev pub HaveCodes : Places → List Tree → Type 0
HaveCodes places ts =
    (code : Text) → is_some (place_of places code) ≡ list_any (λ u. bytes_eq code (text_at (codes "code") u)) ts
