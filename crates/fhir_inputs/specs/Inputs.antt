-- Inputs, and their lines.
use Rattle.std.specs.Prelude.{◌≡◌, ℕ, List, [], ◌∷◌, Option, None, IfSome, slice_get}
use Rattle.std.specs.Option.{option_map_or}
use Rattle.fhir_serve.specs.Lines.{lines_of, AreFirst}
use Rattle.fhir_inputs.specs.declared.input.Kind.{Kind}
use Rattle.fhir_inputs.specs.declared.input.Kind.TheVariants.{Document, Lines}

-- what an input holds, and its bytes, where they are known
pub record InputValue : Type 0 where
  pub kind : Kind
  pub bytes : Option (List ℕ)

-- one of which nothing is known
abbrev pub unknown_input : InputValue
unknown_input = record { kind = Lines; bytes = None }

abbrev pub input_at : List InputValue → ℕ → InputValue
input_at inputs place = option_map_or (λ i. i) (slice_get inputs place) unknown_input

abbrev pub kind_at : List InputValue → ℕ → Kind
kind_at inputs place = (input_at inputs place).kind

abbrev pub bytes_at : List InputValue → ℕ → Option (List ℕ)
bytes_at inputs place = (input_at inputs place).bytes

-- a document is one line, whatever stands in it
abbrev pub lines_in : Kind → List ℕ → List (List ℕ)
lines_in Document bytes = bytes ∷ []
lines_in Lines bytes = lines_of bytes

-- these are all lines of the input, where its bytes are known
abbrev pub AreAll : InputValue → List (List ℕ) → Type 0
AreAll input lines = IfSome input.bytes (λ bytes. lines ≡ lines_in input.kind bytes)

-- these are its first lines
abbrev pub AreSome : InputValue → List (List ℕ) → Type 0
AreSome input lines = IfSome input.bytes (λ bytes. AreFirst lines (lines_in input.kind bytes))
