-- Words, one piece at a time.
use Rattle.std.proofs.Common.{◌≡◌, ℕ, zero, suc, ◌<◌, ◌≤◌, false, eqb, ltb, List, [], ◌∷◌, ◌++◌, length, Option, Some, None, refl, sym, ap, subst, ◌∙◌, arith, inl, inr}
use Rattle.std.proofs.lemmas.Bool.{ltb-true, ltb-false, lt-ltb, le-ltb, and_right}
use Rattle.std.proofs.lemmas.List.{length-append, append-nil}
use Rattle.fhir_fp_syntax.specs.declared.token.Stop.{Stop}
use Rattle.fhir_fp_syntax.specs.declared.token.Stop.TheVariants as stops
use Rattle.fhir_fp_syntax.specs.Answers.{◌>>=◌, Fails}
use Rattle.fhir_fp_syntax.specs.Words.{Word}
use Rattle.fhir_fp_syntax.specs.Grammar.{max_words}
use Rattle.fhir_fp_syntax.specs.Lexing.{behind_asterisk, piece_at, words_of_piece, words_at, words_in, unless_many, with_piece}
use Rattle.fhir_fp_syntax.proofs.Options.{behind_front, front_nil, front_bind, some_is, no_some, chosen}

-- one byte closes no comment
pub no_comment : (s : List ℕ) → length s ≤ 1 → behind_asterisk s ≡ None
no_comment [] h = refl
no_comment (b ∷ []) h = rw (and_right (eqb b 42) false refl) refl
no_comment (b ∷ c ∷ s) h = absurd (omega arith)

bind_bind : {A B C : Type 0} (o : Option A) (f : A → Option B) (g : B → Option C) → ((o >>= f) >>= g) ≡ (o >>= (λ x. f x >>= g))
bind_bind (Some x) f g = refl
bind_bind None f g = refl

fails_from : {A B : Type 0} (e : Stop) (r : Option A) (s : Option B) → (r ≡ None → s ≡ None) → Fails e r → Fails e s
fails_from stops.Unread r s h k = h k
fails_from stops.NoMemory r s h k = tt

too_many : (front : List Word) (r : Option (List Word)) → max_words < length front → (behind_front front r >>= unless_many) ≡ None
too_many front None h = refl
too_many front (Some ts) h = rw (lt-ltb max_words (length (front ++ ts)) (omega (arith, length-append front ts))) refl

step : (n : ℕ) (rest : List ℕ) → length rest < n → 0 < length rest
    → (m : ℕ) × (n ≡ suc m) × (words_at n rest ≡ (piece_at rest >>= λ p. behind_front (words_of_piece p.0) (words_at m p.1)))
unfolding words_at
step zero rest h some = absurd (omega arith)
step (suc n) [] h some = absurd (omega arith)
step (suc n) (b ∷ rest) h some = (n, refl, refl)

last : (n : ℕ) (rest : List ℕ) → length rest < n → length rest ≡ 0 → words_at n rest ≡ Some []
unfolding words_at
last zero rest h k = absurd (omega arith)
last (suc n) [] h k = refl
last (suc n) (b ∷ rest) h k = absurd (omega arith)

pub pieces_begin : (text : List ℕ) → words_in text ≡ behind_front [] (words_at (suc (length text)) text)
unfolding words_in
pieces_begin text = front_nil (words_at (suc (length text)) text)

more_words : (ts : List Word) (p : Option Word) (more : List Word) → with_piece ts p ≡ Some more → length ts ≤ max_words
    → (more ≡ ts ++ words_of_piece p) × (length more ≤ max_words)
more_words ts None more is h = let same = some_is ts more is in (sym same ∙ sym (append-nil ts), subst (λ (w : List Word). length w ≤ max_words) same h)
more_words ts (Some t) more is h =
    elim (chosen (ltb (length ts) max_words) _ _ _ is) [
      | inl less ↦
          let same = some_is (ts ++ t ∷ []) more less.1 in
          let room = ltb-true (length ts) max_words less.0 in
          (sym same, subst (λ (w : List Word). length w ≤ max_words) same (omega (arith, length-append ts (t ∷ []))))
      | inr many ↦ absurd (no_some more many.1)
    ]

full : (ts : List Word) (p : Option Word) → with_piece ts p ≡ None → (r : Option (List Word)) → (behind_front (ts ++ words_of_piece p) r >>= unless_many) ≡ None
full ts None is r = absurd (no_some ts (sym is))
full ts (Some t) is r =
    elim (chosen (ltb (length ts) max_words) _ _ _ is) [
      | inl less ↦ absurd (no_some (ts ++ t ∷ []) (sym less.1))
      | inr many ↦
          let room = ltb-false (length ts) max_words many.0 in too_many (ts ++ t ∷ []) r (omega (arith, length-append ts (t ∷ [])))
    ]

-- ---- a turn of the loop: the words so far, and what is left

module _ (whole : Option (List Word)) (n : ℕ) (rest : List ℕ) (front : List Word) (enough : length rest < n) (few : length front ≤ max_words)
    (so_far : whole ≡ behind_front front (words_at n rest)) where
  pub pieces_end : length rest ≡ 0 → (whole >>= unless_many) ≡ Some front
  pieces_end none = ap (λ (o : Option (List Word)). o >>= unless_many) (so_far ∙ ap (behind_front front) (last n rest enough none) ∙ ap (λ (w : List Word). Some w) (append-nil front)) ∙ rw (le-ltb max_words (length front) few) refl

  turn : 0 < length rest → (m : ℕ) × (n ≡ suc m) × (whole ≡ (piece_at rest >>= λ p. behind_front (front ++ words_of_piece p.0) (words_at m p.1)))
  turn some = let s = step n rest enough some in (s.0, s.1, so_far ∙ ap (behind_front front) s.2 ∙ front_piece (piece_at rest) (words_at s.0))
    where
      front_piece : (o : Option (Option Word × List ℕ)) (f : List ℕ → Option (List Word))
          → behind_front front (o >>= (λ p. behind_front (words_of_piece p.0) (f p.1))) ≡ (o >>= (λ p. behind_front (front ++ words_of_piece p.0) (f p.1)))
      front_piece (Some p) f = front_bind front (Some (words_of_piece p.0, p.1)) f
      front_piece None f = refl

  pub piece_fails : 0 < length rest → (e : Stop) → Fails e (piece_at rest) → Fails e (whole >>= unless_many)
  piece_fails some e h =
      fails_from e _ _ (λ is. ap (λ (o : Option (List Word)). o >>= unless_many) ((turn some).2 ∙ ap (λ (o : Option (Option Word × List ℕ)). o >>= (λ p. behind_front (front ++ words_of_piece p.0) (words_at (turn some).0 p.1))) is)) h

  module _ (some : 0 < length rest) (p : Option Word) (after : List ℕ) (read : piece_at rest ≡ Some (p, after)) where
    turned : whole ≡ behind_front (front ++ words_of_piece p) (words_at (turn some).0 after)
    turned = (turn some).2 ∙ ap (λ (o : Option (Option Word × List ℕ)). o >>= (λ q. behind_front (front ++ words_of_piece q.0) (words_at (turn some).0 q.1))) read

    pub add_fails : (e : Stop) → Fails e (with_piece front p) → Fails e (whole >>= unless_many)
    add_fails e h =
        fails_from e _ _ (λ is. ap (λ (o : Option (List Word)). o >>= unless_many) turned ∙ full front p is (words_at (turn some).0 after)) h

    pub piece_added : (more : List Word) → with_piece front p ≡ Some more → length after < length rest
        → (m : ℕ) × (length after < m) × (length more ≤ max_words) × (whole ≡ behind_front more (words_at m after))
    piece_added more is shorter =
        let w = more_words front p more is few in (
          (turn some).0,
          omega (arith, (turn some).1),
          w.1,
          turned ∙ ap (λ (v : List Word). behind_front v (words_at (turn some).0 after)) (sym w.0),
        )
