-- Small steps on Booleans, options and lists.
use Rattle.std.proofs.Common.{◌≡◌, ℕ, suc, Bool, true, false, List, [], ◌∷◌, ◌++◌, take, drop, length, Option, Some, None, option_and_then, refl, sym, ap, ◌∙◌}
use Rattle.std.proofs.Common.{inl, inr, ◌⊎◌, one-add}
use Rattle.std.specs.Prelude.{if◌then◌else◌}
use Rattle.std.specs.List.{prefix_len, list_all}
use Rattle.std.proofs.lemmas.Bool.{cases_Bool, and_parts}
use Rattle.std.proofs.lemmas.List.{take-append-drop}

pub some_is : {A : Type 0} (x y : A) → Some x ≡ Some y → x ≡ y
some_is x y e = cc

abbrev pub none_of : {A : Type 0} → Option A
none_of = None

pub no_some : {A : Type 0} (y : A) → none_of {A = A} ≡ Some y → ⊥
no_some y e = cc

pub some_then : {A B : Type 0} (o : Option A) (f : A → Option B) (y : B) → option_and_then f o ≡ Some y → (x : A) × (o ≡ Some x) × (f x ≡ Some y)
some_then (Some x) f y e = (x, refl, e)
some_then None f y e = absurd cc

-- which branch gave the value
pub chosen : {A : Type 0} (b : Bool) (x y z : A) → (if b then x else y) ≡ z → ((b ≡ true) × (x ≡ z)) ⊎ ((b ≡ false) × (y ≡ z))
chosen true x y z e = inl (refl, e)
chosen false x y z e = inr (refl, e)

-- the text does not begin with such a byte
abbrev pub Lacks : (ℕ → Bool) → List ℕ → Type 0
Lacks p [] = Unit {0}
Lacks p (b ∷ bs) = p b ≡ false

-- ---- the longest front of bytes that pass

pub front_passes : (p : ℕ → Bool) (bs : List ℕ) → list_all p (take (prefix_len p bs) bs) ≡ true
front_passes p [] = refl
front_passes p (b ∷ bs) =
    elim (cases_Bool (p b)) [
      | inl is ↦ rw (is, one-add, is) (front_passes p bs)
      | inr isnt ↦ rw isnt refl
    ]

pub front_len : (p : ℕ → Bool) (xs ys : List ℕ) → list_all p xs ≡ true → Lacks p ys → prefix_len p (xs ++ ys) ≡ length xs
front_len p [] [] h stop = refl
front_len p [] (y ∷ ys) h stop = rw stop refl
front_len p (x ∷ xs) ys h stop =
    let both = and_parts (p x) (list_all p xs) h in
    rw (both.0, one-add) (ap (λ (n : ℕ). suc n) (front_len p xs ys both.1 stop))

take_front : (xs ys : List ℕ) → take (length xs) (xs ++ ys) ≡ xs
take_front [] ys = refl
take_front (x ∷ xs) ys = ap (λ (w : List ℕ). x ∷ w) (take_front xs ys)

drop_front : (xs ys : List ℕ) → drop (length xs) (xs ++ ys) ≡ ys
drop_front [] ys = refl
drop_front (x ∷ xs) ys = drop_front xs ys

pub front_again : (p : ℕ → Bool) (xs ys : List ℕ) → list_all p xs ≡ true → Lacks p ys → take (prefix_len p (xs ++ ys)) (xs ++ ys) ≡ xs
front_again p xs ys h stop = ap (λ (n : ℕ). take n (xs ++ ys)) (front_len p xs ys h stop) ∙ take_front xs ys

pub rest_again : (p : ℕ → Bool) (xs ys : List ℕ) → list_all p xs ≡ true → Lacks p ys → drop (prefix_len p (xs ++ ys)) (xs ++ ys) ≡ ys
rest_again p xs ys h stop = ap (λ (n : ℕ). drop n (xs ++ ys)) (front_len p xs ys h stop) ∙ drop_front xs ys

pub front_and_rest : (p : ℕ → Bool) (bs : List ℕ) → bs ≡ take (prefix_len p bs) bs ++ drop (prefix_len p bs) bs
front_and_rest p bs = sym (take-append-drop (prefix_len p bs) bs)
