-- Fields that are codes of a set.
use Rattle.std.specs.Prelude.{Bool, Option}
use Rattle.fhir_json.specs.Tree.{Text, Tree}
use Rattle.fhir_json.specs.Fields.{text_in, as_text, allows}
use Rattle.std.specs.Option.{option_and_then}

-- a field that is a code, and whether it is absent or one
abbrev pub code_in : {A : Type 0} → (Text → Option A) → Text → Tree → Option A
code_in read name t = option_and_then read (text_in name t)

abbrev pub allows_code : {A : Type 0} → (Text → Option A) → Text → Tree → Bool
allows_code read name t = allows (λ v. option_and_then read (as_text v)) name t
