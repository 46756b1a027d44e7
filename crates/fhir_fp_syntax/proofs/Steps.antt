-- Reading tails, one turn at a time.
use Rattle.std.proofs.Common.{◌≡◌, ℕ, zero, suc, ◌-◌, ◌<◌, ◌≤◌, List, [], ◌∷◌, length, get_or, drop, Option, Some, refl, ap, subst, arith}
use Rattle.std.proofs.lemmas.Bool.{eq-eqb, ne_eqb}
use Rattle.fhir_fp_syntax.specs.declared.token.Token.{Token}
use Rattle.fhir_fp_syntax.specs.declared.token.Next.{Next}
use Rattle.fhir_fp_syntax.specs.Expression.{Expression}
use Rattle.fhir_fp_syntax.specs.Words.{Word, next_of, looseness}
use Rattle.fhir_fp_syntax.specs.Views.{word_of, words_of}
use Rattle.fhir_fp_syntax.specs.Answers.{◌>>=◌}
use Rattle.fhir_fp_syntax.specs.Parsing.{Parse, Calls, tail_at, more_at, level_at}

module _ (inner : Parse) (calls : Calls) where
  pub level_begins : (n : ℕ) → (n ≡ 0 → ⊥) → (ts rest : List Word) (e : Expression) → level_at inner calls (n - 1) ts ≡ Some (e, rest)
      → level_at inner calls n ts ≡ more_at n (tail_at inner calls (level_at inner calls (n - 1))) (length rest) e rest
  unfolding level_at
  level_begins zero some ts rest e h = absurd (some refl)
  level_begins (suc n) some ts rest e h =
      let same : suc n - 1 ≡ n = omega arith in
      let read : level_at inner calls n ts ≡ Some (e, rest) = subst (λ (k : ℕ). level_at inner calls k ts ≡ Some (e, rest)) same h in
      rw same (ap (λ (o : Option (Expression × List Word)). o >>= (λ x. more_at (suc n) (tail_at inner calls (level_at inner calls n)) (length x.1) x.0 x.1)) read)

module _ (n : ℕ) (tail : Expression → Next → Parse) where
  pub more_ends : (fuel : ℕ) (e : Expression) (rest : List Token) → length rest < 1 → more_at n tail fuel e (words_of rest) ≡ Some (e, words_of rest)
  unfolding more_at
  more_ends zero e [] h = refl
  more_ends (suc fuel) e [] h = refl
  more_ends fuel e (t ∷ rest) h = absurd (omega arith)

  pub more_stops : (fuel : ℕ) (e : Expression) (rest : List Token) (d : Token) → 1 ≤ length rest → (looseness (next_of (word_of (get_or rest 0 d))) ≡ n → ⊥) → more_at n tail fuel e (words_of rest) ≡ Some (e, words_of rest)
  unfolding more_at
  more_stops fuel e [] d h k = absurd (omega arith)
  more_stops zero e (t ∷ rest) d h k = refl
  more_stops (suc fuel) e (t ∷ rest) d h k = rw (ne_eqb (looseness (next_of (word_of t))) n k) refl

  pub more_turns : (fuel : ℕ) (e : Expression) (rest : List Token) (d : Token) → length rest ≤ fuel → 1 ≤ length rest → looseness (next_of (word_of (get_or rest 0 d))) ≡ n
      → (m : ℕ) × (fuel ≡ suc m) × (more_at n tail fuel e (words_of rest) ≡ (tail e (next_of (word_of (get_or rest 0 d))) (words_of (drop 1 rest)) >>= λ x. more_at n tail m x.0 x.1))
  unfolding more_at
  more_turns fuel e [] d enough h k = absurd (omega arith)
  more_turns zero e (t ∷ rest) d enough h k = absurd (omega arith)
  more_turns (suc fuel) e (t ∷ rest) d enough h k = (fuel, refl, rw (eq-eqb (looseness (next_of (word_of t))) n k) refl)
