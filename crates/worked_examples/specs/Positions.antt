-- Places in small texts, and what is told of a file that stops being JSON.
use Rattle.std.specs.Prelude.{ℕ, List, [], ◌∷◌, map, Some, codes}
use Rattle.fhir_json.specs.Tree.{Text}
use Rattle.fhir_json.specs.declared.position.Position.{Position}
use Rattle.fhir_json.specs.declared.refusal.Expected.{Expected}
use Rattle.fhir_json.specs.Position.{position_at}
use Rattle.fhir_package.specs.Surveying.{FileFault, not_json, survey}

-- é, € and 😀, which have two, three and four bytes
abbrev pub wide : Text
wide = 0xc3 ∷ 0xa9 ∷ 0xe2 ∷ 0x82 ∷ 0xac ∷ 0xf0 ∷ 0x9f ∷ 0x98 ∷ 0x80 ∷ []

abbrev pub at : ℕ → ℕ → Position
at line column = record { line = line; column = column }

-- the positions in a text behind so many bytes
abbrev pub positions_in : List ℕ → List ℕ → List Position
positions_in text counts = map (position_at text) counts

-- what is told of a file with these bytes
abbrev pub faults_of : List ℕ → List FileFault
faults_of bytes = (survey ((codes "a.json", Some bytes) ∷ [])).faults

-- this alone: what was expected, and at which line and column
abbrev pub missing : Expected → ℕ → ℕ → List FileFault
missing expected line column = not_json (codes "a.json") expected (at line column) ∷ []
