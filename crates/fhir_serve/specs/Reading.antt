-- What a read of a line does to the bytes that a reader has left, where those are known.
use Rattle.std.specs.Prelude.{◌≡◌, ℕ, List, [], ◌∷◌, ◌++◌, ⊤, None, Some, Option}
use Rattle.std.specs.Io.KnownBytes.{IsAtEnd}
use Rattle.fhir_serve.specs.Lines.{lines_of}
use Rattle.fhir_serve.specs.declared.reading.Reading.{Reading}
use Rattle.fhir_serve.specs.declared.reading.Reading.TheVariants.{Held, Unheld, End, Failure}

-- the lines of known bytes are these, and then those of what is left of the bytes
abbrev pub Takes : Option (List ℕ) → List (List ℕ) → Option (List ℕ) → Type 0
Takes None lines new = ⊤
Takes (Some bytes) lines None = ⊥
Takes (Some bytes) lines (Some rest) = lines_of bytes ≡ lines ++ lines_of rest

-- the next line was taken, or there is none
abbrev pub Reads : Reading → Option (List ℕ) → Option (List ℕ) → Type 0
Reads (Held line) old new = Takes old (line.items ∷ []) new
Reads Unheld old new = (line : List ℕ) × Takes old (line ∷ []) new
Reads End old new = IsAtEnd old
Reads Failure old new = ⊤
