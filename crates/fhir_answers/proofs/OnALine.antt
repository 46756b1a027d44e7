-- A text on a line, by its characters.
use Rattle.std.proofs.Common.{◌≡◌, ℕ, List, [], ◌∷◌, ◌++◌, filter, IsUtf8, codes, refl, ap, ap₂, ◌∙◌}
use Rattle.std.proofs.lemmas.List.Elements.{filter-append}
use Rattle.std.proofs.lemmas.Str.{chars-append}
use Rattle.std.specs.Char.{is_control}
use Rattle.std.specs.Str.{chars}
use Rattle.fhir_json.specs.Bytes.{line_feed}
use Rattle.fhir_json.specs.Tree.{Text}

line_feed_alone : filter is_control (chars (codes "\n")) ≡ line_feed ∷ []
unfolding chars
line_feed_alone = refl

-- one that has no control character has the line feed behind it alone
pub line_clean : (text : Text) → IsUtf8 text → filter is_control (chars text) ≡ [] → filter is_control (chars (text ++ codes "\n")) ≡ line_feed ∷ []
line_clean text is clean =
    ap (filter is_control) (chars-append text (codes "\n") is) ∙ filter-append is_control (chars text) (chars (codes "\n"))
    ∙ ap₂ (λ (xs ys : List ℕ). xs ++ ys) clean line_feed_alone
