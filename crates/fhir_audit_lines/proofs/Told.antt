-- What is told, from its lines.
use Rattle.std.proofs.Common.{◌≡◌, List, [], ◌∷◌, ◌++◌, ap, ◌∙◌}
use Rattle.fhir_json.specs.Tree.{Text}
use Rattle.fhir_lines.specs.Lines.{text_rows}

-- all that is told, from the lines
pub all_told : (text : Text) (all on_profiles others : List Text) (line last : Text) → text ≡ text_rows all → all ≡ on_profiles ++ others ++ line ∷ []
    → line ≡ last → text ≡ text_rows (on_profiles ++ others ++ last ∷ [])
all_told text all on_profiles others line last written joined same =
    written ∙ ap (λ (l : List Text). text_rows l) (joined ∙ ap (λ (l : Text). on_profiles ++ others ++ l ∷ []) same)
