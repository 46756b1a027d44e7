-- Runs of bytes of one kind.
use Rattle.std.proofs.Common.{◌≡◌, ℕ, Bool, true, false, List, [], ◌∷◌, ◌++◌, length, take, drop, refl, inl, inr}
use Rattle.std.proofs.Math.Numerals.{one-add}
use Rattle.std.specs.List.{prefix_len}
use Rattle.std.proofs.lemmas.Bool.{cases_Bool, and_parts}
use Rattle.std.specs.List.{list_all}
use Rattle.fhir_fp_syntax.specs.Characters.{begins}
use Rattle.fhir_fp_syntax.specs.Tokens.{AllAre}

module _ (p : ℕ → Bool) where
  pub run_all : (s : List ℕ) → AllAre p (take (prefix_len p s) s)
  run_all [] = tt
  run_all (b ∷ s) =
      elim (cases_Bool (p b)) [
        | inl is ↦ rw (is, one-add) (is, run_all s)
        | inr isnt ↦ rw isnt tt
      ]

  pub run_stops : (s : List ℕ) → begins p (drop (prefix_len p s) s) ≡ false
  run_stops [] = refl
  run_stops (b ∷ s) =
      elim (cases_Bool (p b)) [
        | inl is ↦ rw (is, one-add) (run_stops s)
        | inr isnt ↦ rw (isnt, isnt) refl
      ]

  pub run_again : (v rest : List ℕ) → AllAre p v → begins p rest ≡ false → prefix_len p (v ++ rest) ≡ length v
  run_again [] [] h stop = refl
  run_again [] (b ∷ rest) h stop = rw stop refl
  run_again (b ∷ v) rest h stop = rw (h.0, run_again v rest h.1 stop, one-add) refl

  pub all_from : (v : List ℕ) → list_all p v ≡ true → AllAre p v
  all_from [] h = tt
  all_from (b ∷ v) h = let both = and_parts (p b) (list_all p v) h in (both.0, all_from v both.1)
