-- All that a comparison tells.
use Rattle.std.specs.Prelude.{◌≡◌, ℕ, List, [], ◌∷◌, ◌++◌, codes}
use Rattle.fhir_json.specs.Tree.{Text}
use Rattle.fhir_json.specs.Compact.{compact}
use Rattle.fhir_package.specs.Definitions.{Definitions}
use Rattle.fhir_words.specs.declared.request.Format.{Format}
use Rattle.fhir_words.specs.declared.request.Format.TheVariants.{Text as AsText, Json as AsJson}
use Rattle.fhir_compare.specs.declared.verdict.Compared.{Compared}
use Rattle.fhir_compare.specs.Comparing.{Said}
use Rattle.fhir_compare.specs.Views.{all_said}
use Rattle.fhir_lines.specs.Lines.{text_rows}
use Rattle.fhir_lines.specs.Each.{AreOnEach}
use Rattle.fhir_compare_lines.specs.declared.parts.Part.{Part}
use Rattle.fhir_compare_lines.specs.Parts.{part_word}
use Rattle.fhir_compare_lines.specs.Counting.{counts_of, counts_text}
use Rattle.fhir_compare_lines.specs.Telling.{IsToldText, types_lines}
use Rattle.fhir_compare_lines.specs.Trees.{IsToldTree, counts_tree}

-- the lines on a url
abbrev pub IsTold : Format → (old new : Definitions) → Said → List Text → Type 0
IsTold AsText old new s ls = IsToldText old new s.0 s.1 ls
IsTold AsJson old new s ls = IsToldTree s.0 s.1 ls

-- those on each, in order
abbrev pub AreTold : Format → (old new : Definitions) → List Said → List Text → Type 0
AreTold format old new said ls = AreOnEach (IsTold format old new) said ls

-- how many types differ, if any do; and last the counts, with the part of a version that has to change
abbrev pub last_lines : Format → List Compared → (types : ℕ) → Part → List Text
last_lines AsText told types part = types_lines types ++ (counts_text (counts_of told) ++ codes ", version: " ++ part_word part) ∷ []
last_lines AsJson told types part = compact (counts_tree (counts_of told) types part) ∷ []

-- Each url is told in order, and these behind them. No text puts in a line or a control character.
pub record IsReport (format : Format) (old new : Definitions) (told : List Compared) (types : ℕ) (part : Part) (text : Text) : Type 0 where
  pub on_urls : List Text
  pub are_told : AreTold format old new (all_said told) on_urls
  pub written : text ≡ text_rows (on_urls ++ last_lines format told types part)
