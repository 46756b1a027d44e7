-- Where a name first stands, as a list of names grows at its end.
use Rattle.std.proofs.Common.{◌≡◌, ℕ, ◌+◌, suc, Bool, cond, true, false, List, [], ◌∷◌, ◌++◌, length, Option, None, Some, is_some, refl, ap, sym, ◌∙◌, arith}
use Rattle.std.specs.Str.{bytes_eq}
use Rattle.std.specs.List.{position_from}
use Rattle.std.proofs.lemmas.Bool.{false≢true}
use Rattle.std.proofs.lemmas.Slice.Eq.{bytes_eq-Decides}
use Rattle.fhir_names.specs.Places.{Places, place_of, Puts, Finds}

-- what is found behind a first element that passes or doesn't
behind : (b : Bool) (i n m : ℕ) (q : Bool) (r : Option ℕ) → n ≡ m
    → cond b (Some i) (cond (is_some r) r (cond q (Some n) None)) ≡ cond (is_some (cond b (Some i) r)) (cond b (Some i) r) (cond q (Some m) None)
behind true i n m q r e = refl
behind false i n m q r e = ap (λ (k : ℕ). cond (is_some r) r (cond q (Some k) None)) e

-- one more at the end is found where none before it is
position-push : (p : List ℕ → Bool) (i : ℕ) (xs : List (List ℕ)) (x : List ℕ)
    → position_from p i (xs ++ x ∷ []) ≡ cond (is_some (position_from p i xs)) (position_from p i xs) (cond (p x) (Some (i + length xs)) None)
position-push p i [] x = ap (λ (n : ℕ). cond (p x) (Some n) None) (omega arith)
position-push p i (y ∷ xs) x =
    ap (λ (r : Option ℕ). cond (p y) (Some i) r) (position-push p (i + 1) xs x)
    ∙ behind (p y) i (i + 1 + length xs) (i + suc (length xs)) (p x) (position_from p (i + 1) xs) (omega arith)

found : (r : Option ℕ) (b : Bool) (n : ℕ) → (b ≡ true → is_some r ≡ true) → r ≡ cond (is_some r) r (cond b (Some n) None)
found None true n k = absurd (false≢true (k refl))
found None false n k = refl
found (Some x) b n k = refl

joined : (r : Option ℕ) (b : Bool) (n : ℕ) → (b ≡ true → is_some r ≡ false) → cond b (Some n) r ≡ cond (is_some r) r (cond b (Some n) None)
joined None true n k = refl
joined None false n k = refl
joined (Some x) true n k = absurd (false≢true (sym (k refl)))
joined (Some x) false n k = refl

-- what is known of a name is known of the equal one
same_name : (other name : List ℕ) (f : List ℕ → Option ℕ) (b : Bool) → is_some (f name) ≡ b → bytes_eq other name ≡ true → is_some (f other) ≡ b
same_name other name f b is e = ap (λ (n : List ℕ). is_some (f n)) ((bytes_eq-Decides other name).0 e) ∙ is

-- a name that has a place keeps it
pub kept : (places : Places) (names : List (List ℕ)) (name : List ℕ) → is_some (place_of places name) ≡ true → Finds places names
    → Finds places (names ++ name ∷ [])
kept places names name is h = λ other.
    let first : List ℕ → Option ℕ = λ n. position_from (bytes_eq n) 0 names in
    h other
    ∙ found (first other) (bytes_eq other name) (0 + length names) (same_name other name first true (ap is_some (sym (h name)) ∙ is))
    ∙ sym (position-push (bytes_eq other) 0 names name)

-- a name that has none gets the place at the end
pub added : (old new : Places) (names : List (List ℕ)) (name : List ℕ) (place : ℕ) → is_some (place_of old name) ≡ false → Puts old new name place
    → length names ≡ place → Finds old names → Finds new (names ++ name ∷ [])
added old new names name place is put e h = λ other.
    let first : List ℕ → Option ℕ = λ n. position_from (bytes_eq n) 0 names in
    let at_end : place ≡ 0 + length names = omega arith in
    put other
    ∙ ap (λ (r : Option ℕ). cond (bytes_eq other name) (Some place) r) (h other)
    ∙ ap (λ (n : ℕ). cond (bytes_eq other name) (Some n) (first other)) at_end
    ∙ joined (first other) (bytes_eq other name) (0 + length names) (same_name other name first false (ap is_some (sym (h name)) ∙ is))
    ∙ sym (position-push (bytes_eq other) 0 names name)
