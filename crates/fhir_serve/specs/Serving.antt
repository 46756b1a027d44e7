-- What serving lines is.
use Rattle.std.specs.Prelude.{◌≡◌, ℕ, List, [], ◌∷◌, ◌++◌}

-- Lines are answered in turn, from what a service holds to what it holds then, and this is all that is written.
module _ {V : Type 0} (Answers : V → List ℕ → V → List ℕ → Type 0) where
  unfoldable pub Serves : V → List (List ℕ) → V → List ℕ → Type 0
  Serves v [] w written = (w ≡ v) × (written ≡ [])
  Serves v (line ∷ lines) w written =
      (between : V) × (answer : List ℕ) × (rest : List ℕ)
      × Answers v line between answer × Serves between lines w rest × (written ≡ answer ++ rest)
