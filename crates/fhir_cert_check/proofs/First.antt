-- The first rule that fails, in parts of a list.
use Rattle.std.proofs.Common.{◌≡◌, Bool, true, false, List, [], ◌∷◌, ◌++◌, Option, Some, None, refl, cond, ◌&&◌}
use Rattle.std.proofs.Common.{ℕ, ◌+◌, ◌<◌, length, map, get_or, drop, drop-cons, add-one, suc, option_map, sym, ap, ◌∙◌}
use Rattle.std.specs.List.{list_all, flat_map}
use Rattle.std.specs.Option.{option_or, is_none, is_some}
use Rattle.std.proofs.lemmas.Bool.{false≢true, true≢false}
use Rattle.std.proofs.lemmas.Grind.{flat_map-append}
use Rattle.fhir_elements.specs.Tests.{first_of}

pub first_of-append : {R : Type 0} (xs ys : List (Bool × R)) → first_of (xs ++ ys) ≡ option_or (first_of xs) (first_of ys)
first_of-append [] ys = refl
first_of-append (x ∷ xs) ys = go x.0 (first_of-append xs ys)
  where
    go : (b : Bool) → first_of (xs ++ ys) ≡ option_or (first_of xs) (first_of ys)
        → cond b (first_of (xs ++ ys)) (Some x.1) ≡ option_or (cond b (first_of xs) (Some x.1)) (first_of ys)
    go true e = e
    go false e = refl

-- where the first part's tests all hold, it is the second part's first
pub first_behind : {R : Type 0} (xs ys : List (Bool × R)) → first_of xs ≡ None → first_of (xs ++ ys) ≡ first_of ys
first_behind xs ys none = first_of-append xs ys ∙ ap (λ o. option_or o (first_of ys)) none

-- where one of them doesn't, it is that one
pub first_before : {R : Type 0} (xs ys : List (Bool × R)) (r : R) → first_of xs ≡ Some r → first_of (xs ++ ys) ≡ Some r
first_before xs ys r some = first_of-append xs ys ∙ ap (λ o. option_or o (first_of ys)) some

pub first_holds : {R : Type 0} (b : Bool) (r : R) (xs : List (Bool × R)) → b ≡ true → first_of ((b, r) ∷ xs) ≡ first_of xs
first_holds true r xs e = refl
first_holds false r xs e = absurd (false≢true e)

pub first_fails : {R : Type 0} (b : Bool) (r : R) (xs : List (Bool × R)) → b ≡ false → first_of ((b, r) ∷ xs) ≡ Some r
first_fails true r xs e = absurd (true≢false e)
first_fails false r xs e = refl

-- no rule fails exactly where all hold
pub is_none-first_of : {R : Type 0} (cs : List (Bool × R)) → is_none (first_of cs) ≡ list_all (λ c. c.0) cs
is_none-first_of [] = refl
is_none-first_of (c ∷ cs) = go c.0 (is_none-first_of cs)
  where
    go : (b : Bool) → is_none (first_of cs) ≡ list_all (λ c. c.0) cs → is_none (cond b (first_of cs) (Some c.1)) ≡ (b && list_all (λ c. c.0) cs)
    go true e = e
    go false e = refl

pub first_stays : {R : Type 0} (o p : Option R) → is_some o ≡ true → o ≡ option_or o p
first_stays None p h = absurd (false≢true h)
first_stays (Some x) p h = refl

-- a loop's step, where an element's rules all hold
pub first_past : {A R : Type 0} (f : A → List (Bool × R)) (xs : List A) (i : ℕ) (x : A) → i < length xs → x ≡ get_or xs i x → first_of (f x) ≡ None
    → first_of (flat_map f (drop (i + 1) xs)) ≡ first_of (flat_map f (drop i xs))
first_past f xs i x within is none =
    rw (add-one i, drop-cons xs i x within, ← is, first_of-append (f x) (flat_map f (drop (suc i) xs)), none) refl

-- and its end, where one doesn't
pub first_here : {A R : Type 0} (f : A → List (Bool × R)) (xs : List A) (i : ℕ) (x : A) → i < length xs → x ≡ get_or xs i x → is_some (first_of (f x)) ≡ true
    → first_of (f x) ≡ first_of (flat_map f (drop i xs))
first_here f xs i x within is some =
    rw (drop-cons xs i x within, ← is, first_of-append (f x) (flat_map f (drop (suc i) xs))) (first_stays (first_of (f x)) _ some)

is_some-option_map : {A B : Type 0} (w : A → B) (o : Option A) → is_some (option_map w o) ≡ is_some o
is_some-option_map w None = refl
is_some-option_map w (Some x) = refl

isnt_some : {A : Type 0} (o : Option A) → is_some o ≡ false → o ≡ None
isnt_some None h = refl
isnt_some (Some x) h = absurd (true≢false h)

module _ {A Q R : Type 0} (w : Q → R) (o : Option Q) (f : A → List (Bool × R)) (xs : List A) (i : ℕ) (x : A) (ensures : option_map w o ≡ first_of (f x))
    (within : i < length xs) (is : x ≡ get_or xs i x) (sofar : first_of (flat_map f (drop i xs)) ≡ first_of (flat_map f xs)) where
  -- a loop's step, and its end, by what a call answered
  pub first_goes : is_some o ≡ false → first_of (flat_map f (drop (i + 1) xs)) ≡ first_of (flat_map f xs)
  first_goes none = first_past f xs i x within is (isnt_some (first_of (f x)) (ap is_some (sym ensures) ∙ is_some-option_map w o ∙ none)) ∙ sofar

  pub first_ends : is_some o ≡ true → option_map w o ≡ first_of (flat_map f xs)
  first_ends some = ensures ∙ first_here f xs i x within is (ap is_some (sym ensures) ∙ is_some-option_map w o ∙ some) ∙ sofar

pub is_none-option_map : {A B : Type 0} (w : A → B) (o : Option A) → is_none (option_map w o) ≡ is_none o
is_none-option_map w None = refl
is_none-option_map w (Some x) = refl

-- lists of one element each, joined
pub singles : {A B : Type 0} (f : A → B) (xs : List A) → flat_map (λ x. f x ∷ []) xs ≡ map f xs
singles f [] = refl
singles f (x ∷ xs) = ap (λ ys. f x ∷ ys) (singles f xs)

-- of two lists of elements, where one of the first's rules fails
pub first_in_front : {A R X : Type 0} (f : A → List (Bool × R)) (w : X → R) (xs ys : List A) (o : Option X) → option_map w o ≡ first_of (flat_map f xs)
    → is_some o ≡ true → option_map w o ≡ first_of (flat_map f (xs ++ ys))
first_in_front f w xs ys o e some =
    let there : is_some (first_of (flat_map f xs)) ≡ true = sym (ap is_some e) ∙ is_some-option_map w o ∙ some in
    e
    ∙ first_stays (first_of (flat_map f xs)) (first_of (flat_map f ys)) there
    ∙ sym (first_of-append (flat_map f xs) (flat_map f ys))
    ∙ ap first_of (sym (flat_map-append f xs ys))

-- and where none of them does
pub first_in_back : {A R X : Type 0} (f : A → List (Bool × R)) (w : X → R) (xs ys : List A) (o p : Option X) → option_map w o ≡ first_of (flat_map f xs)
    → is_some o ≡ false → option_map w p ≡ first_of (flat_map f ys) → option_map w p ≡ first_of (flat_map f (xs ++ ys))
first_in_back f w xs ys o p e none behind =
    behind
    ∙ sym (first_behind (flat_map f xs) (flat_map f ys) (nothing (first_of (flat_map f xs)) (sym (ap is_some e) ∙ is_some-option_map w o ∙ none)))
    ∙ ap first_of (sym (flat_map-append f xs ys))
  where
    nothing : {R : Type 0} (o : Option R) → is_some o ≡ false → o ≡ None
    nothing None h = refl
    nothing (Some x) h = absurd (false≢true (sym h))
