-- One turn of a loop through a list, and what a call tells that may tell nothing.
use Rattle.std.proofs.Common.{◌≡◌, ℕ, suc, ◌+◌, ◌-◌, ◌<◌, Bool, true, false, List, [], ◌∷◌, map, length, drop, get_or, refl, sym, ap, ◌∙◌, ◌&&◌, ◌||◌, eqb, ne_eqb, add-one, Option, Some, None, arith}
use Rattle.std.specs.Prelude.{IfSome}
use Rattle.std.proofs.Math.Seq.{drop-cons}
use Rattle.std.specs.List.{list_any, range_with_len}
use Rattle.fhir_json.specs.Bytes.{is_empty}

pub next : {A : Type 0} (xs : List A) (i : ℕ) (x : A) → i < length xs → x ≡ get_or xs i x → drop i xs ≡ x ∷ drop (i + 1) xs
next xs i x h is = drop-cons xs i x h ∙ (λ k. sym is k ∷ drop (sym (add-one i) k) xs)

pub first_counted : (n i : ℕ) → i < n → range_with_len i (n - i) ≡ i ∷ range_with_len (i + 1) (n - (i + 1))
first_counted n i h =
    let e : n - i ≡ suc (n - (i + 1)) = omega arith in
    ap (range_with_len i) e

pub both_left : (a b c : Bool) → a ≡ (b && c) → b ≡ true → a ≡ c
both_left a true c is holds = is
both_left a false c is holds = cc

pub both_failed : (a b c : Bool) → a ≡ (b && c) → b ≡ false → false ≡ a
both_failed a true c is fails = cc
both_failed a false c is fails = sym is

pub either_left : (a b c : Bool) → a ≡ (b || c) → b ≡ false → a ≡ c
either_left a true c is fails = cc
either_left a false c is fails = is

pub either_held : (a b c : Bool) → a ≡ (b || c) → b ≡ true → true ≡ a
either_held a true c is holds = sym is
either_held a false c is holds = cc

pub or_held : (a b : Bool) → true ≡ b → true ≡ (a || b)
or_held true b is = refl
or_held false b is = is

pub or_failed : (a b : Bool) → a ≡ false → false ≡ b → false ≡ (a || b)
or_failed true b none is = cc
or_failed false b none is = is

pub empty_is : {A : Type 0} (xs : List A) → eqb (length xs) 0 ≡ is_empty xs
empty_is [] = refl
empty_is (x ∷ xs) = ne_eqb (suc (length xs)) 0 (λ e. omega arith)

pub empty_mapped : {A B : Type 0} (f : A → B) (xs : List A) → eqb (length xs) 0 ≡ is_empty (map f xs)
empty_mapped f [] = refl
empty_mapped f (x ∷ xs) = ne_eqb (suc (length xs)) 0 (λ e. omega arith)

pub any_mapped : {A B : Type 0} (p : B → Bool) (f : A → B) (xs : List A) → list_any (λ x. p (f x)) xs ≡ list_any p (map f xs)
any_mapped p f [] = refl
any_mapped p f (x ∷ xs) = ap (λ b. p (f x) || b) (any_mapped p f xs)

pub told_more : {A : Type 0} (P Q : A → Type 0) → ((a : A) → P a → Q a) → (o : Option A) → IfSome o P → IfSome o Q
told_more P Q more None h = h
told_more P Q more (Some a) h = more a h
