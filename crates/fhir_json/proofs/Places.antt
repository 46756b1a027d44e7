-- Lines and columns, one byte at a time.
use Rattle.std.proofs.Common.{◌≡◌, ℕ, ◌+◌, ◌-◌, ◌<◌, Bool, true, false, cond, not, eqb, List, [], ◌∷◌, ◌++◌, length, get_or, take, drop, min, refl, ap, ◌∙◌}
use Rattle.std.proofs.Common.{arith}
use Rattle.std.specs.Prelude.{nat_eq, count_by, reverse}
use Rattle.std.specs.List.{starts_with, take_while}
use Rattle.std.proofs.lemmas.Bool.{eq-eqb, ne_eqb}
use Rattle.std.proofs.lemmas.List.{take_min, drop_min, take_rest, take_more, reverse-append}
use Rattle.std.proofs.lemmas.List.Sums.{count_by_more_yes, count_by_more_no, sum_by-cons, take_while-cons}
use Rattle.fhir_json.specs.Grammar.{mark}
use Rattle.fhir_json.specs.Position.{begins_character, without_mark, line_feeds, last_characters}

-- ---- the bytes that count

pub whole_front : (bytes : List ℕ) (before : ℕ) → starts_with nat_eq bytes mark ≡ false → take (min before (length bytes)) bytes ≡ without_mark bytes before
whole_front bytes before isnt = rw isnt (take_min before bytes)

pub behind_mark : (bytes : List ℕ) (before : ℕ) → starts_with nat_eq bytes mark ≡ true
    → (let front = take (min before (length bytes)) bytes in let passed = min 3 (length front) in take (length front - passed) (drop passed front))
    ≡ without_mark bytes before
behind_mark bytes before is =
    let front = take (min before (length bytes)) bytes in
    rw is (take_rest front (min 3 (length front)) ∙ drop_min 3 front ∙ ap (drop 3) (take_min before bytes))

-- ---- one byte more

-- from the end
last_push : (s : List ℕ) (x : ℕ)
    → last_characters (s ++ x ∷ [])
    ≡ count_by begins_character (cond (not (eqb x 10)) (x ∷ take_while (λ b. not (eqb b 10)) (reverse s)) [])
last_push s x =
    ap (λ (w : List ℕ). count_by begins_character (take_while (λ b. not (eqb b 10)) w)) (reverse-append s (x ∷ []))
    ∙ ap (count_by begins_character) (take_while-cons (λ b. not (eqb b 10)) x (reverse s))

last_feed : (s : List ℕ) (x : ℕ) → x ≡ 10 → last_characters (s ++ x ∷ []) ≡ 0
last_feed s x is = last_push s x ∙ rw is refl

last_plain : (s : List ℕ) (x : ℕ) → (x ≡ 10 → ⊥) → last_characters (s ++ x ∷ []) ≡ cond (begins_character x) 1 0 + last_characters s
last_plain s x other =
    last_push s x
    ∙ ap (λ (b : Bool). count_by begins_character (cond (not b) (x ∷ take_while (λ b. not (eqb b 10)) (reverse s)) [])) (ne_eqb x 10 other)
    ∙ sum_by-cons (λ b. cond (begins_character b) 1 0) x (take_while (λ b. not (eqb b 10)) (reverse s))

last_first : (s : List ℕ) (x : ℕ) → (x ≡ 10 → ⊥) → begins_character x ≡ true → last_characters (s ++ x ∷ []) ≡ last_characters s + 1
last_first s x other is = let next = ap {B = ℕ} (λ (b : Bool). cond b 1 0) is in omega (arith, last_plain s x other, next)

last_other : (s : List ℕ) (x : ℕ) → (x ≡ 10 → ⊥) → begins_character x ≡ false → last_characters (s ++ x ∷ []) ≡ last_characters s
last_other s x other isnt = let next = ap {B = ℕ} (λ (b : Bool). cond b 1 0) isnt in omega (arith, last_plain s x other, next)

-- what was counted of the first i bytes
abbrev pub Counts : List ℕ → ℕ → ℕ → ℕ → Type 0
Counts xs i line column = (line ≡ line_feeds (take i xs) + 1) × (column ≡ last_characters (take i xs) + 1)

module _ (xs : List ℕ) (i line column : ℕ) (within : i < length xs) (so_far : Counts xs i line column) where
  pub counts_feed : get_or xs i 0 ≡ 10 → Counts xs (i + 1) (line + 1) 1
  counts_feed is = (
    omega (arith, count_by_more_yes (λ b. eqb b 10) xs i 0 within (eq-eqb (get_or xs i 0) 10 is), so_far.0),
    rw (take_more xs i 0 within, last_feed (take i xs) (get_or xs i 0) is) refl,
  )

  pub counts_first : (get_or xs i 0 ≡ 10 → ⊥) → begins_character (get_or xs i 0) ≡ true → Counts xs (i + 1) line (column + 1)
  counts_first other is = (
    omega (arith, count_by_more_no (λ b. eqb b 10) xs i 0 within (ne_eqb (get_or xs i 0) 10 other), so_far.0),
    rw (take_more xs i 0 within) (omega (arith, last_first (take i xs) (get_or xs i 0) other is, so_far.1)),
  )

  pub counts_other : (get_or xs i 0 ≡ 10 → ⊥) → begins_character (get_or xs i 0) ≡ false → Counts xs (i + 1) line column
  counts_other other isnt = (
    omega (arith, count_by_more_no (λ b. eqb b 10) xs i 0 within (ne_eqb (get_or xs i 0) 10 other), so_far.0),
    rw (take_more xs i 0 within) (omega (arith, last_other (take i xs) (get_or xs i 0) other isnt, so_far.1)),
  )
