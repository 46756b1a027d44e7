-- How a line is answered.
use Rattle.std.specs.Prelude.{ℕ, List, Option, Result, OnOk}
use Rattle.std.specs.Io.KnownBytes.{Appends}

module _ {V E : Type 0} (Answers : V → List ℕ → V → List ℕ → Type 0) where
  -- From what is held a line is answered, and the output has grown by the answer, unless it failed.
  abbrev pub IsAnswered : V → List ℕ → V → Result (Unit {0}) E → Option (List ℕ) → Option (List ℕ) → Type 0
  IsAnswered v line w written old new = (answer : List ℕ) × Answers v line w answer × OnOk written (Appends old new answer)
