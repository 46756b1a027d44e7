-- The files that are written of definitions: one for each, whose names are in their order.
use Rattle.std.specs.Prelude.{ℕ, zero, suc, ◌+◌, ◌/◌, ◌%◌, List, [], ◌∷◌, ◌++◌, map, take, length, Bool, ◌||◌, ◌==◌, if◌then◌else◌, codes}
use Rattle.std.specs.Char.{is_ascii_alphanumeric}
use Rattle.std.specs.Int.Digits.{digits_of}
use Rattle.fhir_json.specs.Tree.{Text}
use Rattle.fhir_json.specs.Bytes.{line_feed, minus, dot, digit_zero}
use Rattle.fhir_json.specs.Compact.{compact}
use Rattle.fhir_package.specs.declared.kind.Kind.{Kind}
use Rattle.fhir_package.specs.declared.kind.Kind.TheVariants.{StructureDefinition, ValueSet, CodeSystem}
use Rattle.fhir_package.specs.Folder.{Files}
use Rattle.fhir_gather.specs.Gathering.{Taken}

-- ---- names

-- so many digits of a number: its last ones, and 0 in front where it has fewer
abbrev pub last_digits : ℕ → ℕ → Text
last_digits zero n = []
last_digits (suc width) n = last_digits width (n / 10) ++ (digit_zero + n % 10) ∷ []

-- how many digits a number has
abbrev pub digit_count : ℕ → ℕ
digit_count n = length (digits_of 10 n)

-- the resource type of a kind
abbrev pub kind_word : Kind → Text
kind_word StructureDefinition = codes "StructureDefinition"
kind_word ValueSet = codes "ValueSet"
kind_word CodeSystem = codes "CodeSystem"

abbrev pub underscore : ℕ
underscore = 95

-- a letter, a digit, '-', '.' or '_'
abbrev pub is_name_byte : ℕ → Bool
is_name_byte b = is_ascii_alphanumeric b || (b == minus) || (b == dot) || (b == underscore)

-- any other byte is '_' in a name
abbrev pub name_byte : ℕ → ℕ
name_byte b = if is_name_byte b then b else underscore

-- of how many bytes of a url a name has something
abbrev pub url_bytes : ℕ
url_bytes = 150

-- what a name has of a url
abbrev pub url_part : Text → Text
url_part url = map name_byte (take url_bytes url)

-- the name of the file of the definition at a place of so many, counted from 0: its number, from 1, with as many digits as the
-- last one has, its kind and what it has of its url
abbrev pub file_name : ℕ → ℕ → Taken → Text
file_name count place t =
    last_digits (digit_count count) (place + 1) ++ minus ∷ (kind_word t.definition.kind ++ minus ∷ (url_part t.definition.url ++ codes ".json"))

-- ---- files

-- the text of the file: a line of JSON without blanks
abbrev pub file_text : Taken → Text
file_text t = compact t.definition.tree ++ line_feed ∷ []

-- the files of definitions from a place on, of so many in all
abbrev pub written_from : ℕ → ℕ → List Taken → Files
written_from count place [] = []
written_from count place (t ∷ ts) = (file_name count place t, file_text t) ∷ written_from count (place + 1) ts

-- the files of definitions
abbrev pub written : List Taken → Files
written ts = written_from (length ts) 0 ts
