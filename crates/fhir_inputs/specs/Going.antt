-- What going through inputs is.
use Rattle.std.specs.Prelude.{◌≡◌, ◌⊎◌, ℕ, suc, List, [], ◌∷◌, ◌++◌, Option, Result, OnOk}
use Rattle.std.specs.Io.KnownBytes.{Appends}
use Rattle.fhir_serve.specs.Serving.{Serves}
use Rattle.fhir_inputs.specs.Inputs.{InputValue, AreAll, AreSome}
use Rattle.fhir_inputs.specs.declared.teller.Stop.{Stop}

module _ {V E : Type 0} (Stops : V → Stop → V → List ℕ → Type 0) where
  -- From what is held it is told that an input stops, and the output has grown by that, unless it failed.
  abbrev pub IsStopped : V → Stop → V → Result (Unit {0}) E → Option (List ℕ) → Option (List ℕ) → Type 0
  IsStopped v stop w written old new = (told : List ℕ) × Stops v stop w told × OnOk written (Appends old new told)

module _ {V : Type 0} (Answers : V → List ℕ → V → List ℕ → Type 0) (Begins : V → ℕ → V → Type 0) (Stops : V → Stop → V → List ℕ → Type 0) where
  -- All lines of an input were answered; or its first ones were, and then it was told that it stops.
  abbrev pub HasEnded : InputValue → List (List ℕ) → V → V → (answers written : List ℕ) → Type 0
  HasEnded input lines last w answers written =
      (AreAll input lines × (w ≡ last) × (written ≡ answers))
      ⊎ (AreSome input lines × (stop : Stop) × (told : List ℕ) × Stops last stop w told × (written ≡ answers ++ told))

  -- The lines of an input were answered in turn, from what is held as it begins, and this is all that was written.
  pub record IsTold (input : InputValue) (begun w : V) (written : List ℕ) : Type 0 where
    pub lines : List (List ℕ)
    pub last : V
    pub answers : List ℕ
    pub served : Serves Answers begun lines last answers
    pub ended : HasEnded input lines last w answers written

  -- The input at a place begins, and is told.
  abbrev pub IsGoneThrough : (place : ℕ) → InputValue → V → V → (written : List ℕ) → Type 0
  IsGoneThrough place input v w written = (begun : V) × Begins v place begun × IsTold input begun w written

  -- So was each of these, the first of which has that place.
  unfoldable pub GoesThrough : (place : ℕ) → List InputValue → V → V → (written : List ℕ) → Type 0
  GoesThrough place [] v w written = (w ≡ v) × (written ≡ [])
  GoesThrough place (input ∷ inputs) v w written =
      (between : V) × (first rest : List ℕ)
      × IsGoneThrough place input v between first × GoesThrough (suc place) inputs between w rest × (written ≡ first ++ rest)
