-- The definitions of a text as they are found (used by private contracts alone).
use Rattle.std.specs.Prelude.{◌≡◌, List, map, is_none}
use Rattle.fhir_json.specs.Sound.{differ}
use Rattle.fhir_names.specs.Places.{Finds}
use Rattle.fhir_certificate.specs.declared.stating.DefinitionLines.{DefinitionLines}
use Rattle.fhir_certificate.specs.Numbers.{number_texts}
use Rattle.fhir_certificate.specs.Format.{Stated, urls_of}
use Rattle.fhir_certificate.specs.Views.{stated_seen}

-- the lines of these definitions were read: each is found by its number, and by its url
pub record AreLines (lines : DefinitionLines) (ds : List Stated) : Type 0 where
  pub stated : map stated_seen lines.stated.items ≡ ds
  pub numbers : Finds lines.numbers (number_texts 0 ds)
  pub urls : Finds lines.urls (urls_of ds)
  pub apart : is_none lines.repeated ≡ differ (urls_of ds)
