-- How serving goes on, and how it ends.
use Rattle.std.specs.Prelude.{◌≡◌, ℕ, List, ⊤, Option, IfSome}
use Rattle.std.specs.Io.KnownBytes.{Appends}
use Rattle.fhir_serve.specs.Lines.{lines_of, AreFirst}
use Rattle.fhir_serve.specs.Reading.{Takes}
use Rattle.fhir_serve.specs.Serving.{Serves}
use Rattle.fhir_serve.specs.declared.serving.Ending.{Ending}
use Rattle.fhir_serve.specs.declared.serving.Ending.TheVariants.{Done, Unread, Unwritten}

-- the lines are the first ones of known bytes, and all of them where serving is done
abbrev pub AreRead : Ending → Option (List ℕ) → List (List ℕ) → Type 0
AreRead Done known lines = IfSome known (λ bytes. lines ≡ lines_of bytes)
AreRead Unread known lines = IfSome known (λ bytes. AreFirst lines (lines_of bytes))
AreRead Unwritten known lines = IfSome known (λ bytes. AreFirst lines (lines_of bytes))

-- the output has grown by the bytes, unless it failed
abbrev pub AreWritten : Ending → Option (List ℕ) → Option (List ℕ) → List ℕ → Type 0
AreWritten Done old new written = Appends old new written
AreWritten Unread old new written = Appends old new written
AreWritten Unwritten old new written = ⊤

module _ {V : Type 0} (Answers : V → List ℕ → V → List ℕ → Type 0) where
  -- lines were taken, answered and written
  abbrev pub GoesOn : V → V → Option (List ℕ) → Option (List ℕ) → Option (List ℕ) → Option (List ℕ) → Type 0
  GoesOn v w known left old new =
      (served : List (List ℕ)) × (written : List ℕ)
      × Serves Answers v served w written × Takes known served left × Appends old new written

  -- lines were taken, answered and written, up to the ending
  abbrev pub HasEnded : Ending → V → V → Option (List ℕ) → Option (List ℕ) → Option (List ℕ) → Type 0
  HasEnded ending v w known old new =
      (served : List (List ℕ)) × (written : List ℕ)
      × Serves Answers v served w written × AreRead ending known served × AreWritten ending old new written
