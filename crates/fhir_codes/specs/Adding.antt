-- Concepts that are put behind others (used by private contracts alone).
use Rattle.std.specs.Prelude.{◌≡◌, ◌++◌, List, map}
use Rattle.fhir_json.specs.Tree.{Text}
use Rattle.fhir_codes.specs.Concepts.{Concept, concept}

-- those of a system with these codes, and nothing else
abbrev pub Adds : Text → List Text → List Concept → List Concept → Type 0
Adds system codes old new = new ≡ old ++ map (concept system) codes
