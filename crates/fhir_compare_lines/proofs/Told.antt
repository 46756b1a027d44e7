-- What is told, from its lines.
use Rattle.std.proofs.Common.{◌≡◌, List, ◌++◌, ap, ◌∙◌}
use Rattle.fhir_json.specs.Tree.{Text}
use Rattle.fhir_lines.specs.Lines.{text_rows}

-- all that is told, from the lines
pub all_told : (text : Text) (all on_urls others last : List Text) → text ≡ text_rows all → all ≡ on_urls ++ others → others ≡ last
    → text ≡ text_rows (on_urls ++ last)
all_told text all on_urls others last written joined same =
    written ∙ ap (λ (l : List Text). text_rows l) (joined ∙ ap (λ (l : List Text). on_urls ++ l) same)
