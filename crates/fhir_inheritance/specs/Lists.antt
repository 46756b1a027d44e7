-- Lists of texts.
use Rattle.std.specs.Prelude.{List, [], ◌∷◌, ◌++◌, Bool, true, false, if◌then◌else◌}
use Rattle.std.specs.List.{list_any}
use Rattle.std.specs.Str.{bytes_eq}
use Rattle.fhir_json.specs.Tree.{Text}

abbrev pub has_any : {A : Type 0} → List A → Bool
has_any [] = false
has_any (x ∷ xs) = true

abbrev pub is_among : List Text → Text → Bool
is_among texts text = list_any (bytes_eq text) texts

-- a text behind others, unless it is among them
abbrev pub with_text : List Text → Text → List Text
with_text texts text = if is_among texts text then texts else texts ++ text ∷ []

-- the others behind them, each unless it is among those before it
abbrev pub with_others : List Text → List Text → List Text
with_others texts [] = texts
with_others texts (other ∷ others) = with_others (with_text texts other) others
