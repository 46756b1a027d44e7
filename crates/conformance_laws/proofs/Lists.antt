-- What is so of each of a list, or of one of it.
use Rattle.std.proofs.Common.{◌≡◌, ◌<◌, ℕ, zero, suc, Bool, true, false, cond, List, [], ◌∷◌, map, filter, length, get_or, Some, refl, sym, ap, subst, ◌∙◌, inl, inr, ◌⊎◌, IsTrue, arith}
use Rattle.std.specs.List.{list_any, list_all, flat_map, slice_get, slice_index_or, Contains}
use Rattle.std.proofs.lemmas.Bool.{and_parts, and_from, or_cases, or_left, or_right, false≢true}
use Rattle.std.proofs.lemmas.Option.{none-some, same_Some}
use Rattle.std.proofs.lemmas.List.Elements.{Contains-append_left, Contains-append_right, Contains-append_cases}

-- ---- what a list has

module _ {A : Type 0} where
  pub has_none : (x : A) → Contains [] x → ⊥
  has_none x among = omega (arith, among.1)

  pub has_first : (x y : A) (xs : List A) → x ≡ y → Contains (x ∷ xs) y
  has_first x y xs same = (0, omega arith, same)

  pub has_later : (x y : A) (xs : List A) → Contains xs y → Contains (x ∷ xs) y
  has_later x y xs among = (suc among.0, omega (arith, among.1), among.2)

  pub has_cases : (x y : A) (xs : List A) → Contains (x ∷ xs) y → (x ≡ y) ⊎ Contains xs y
  has_cases x y xs among = at among.0 among.1 among.2
    where
      at : (k : ℕ) → k < length (x ∷ xs) → slice_index_or (x ∷ xs) k y ≡ y → (x ≡ y) ⊎ Contains xs y
      at zero below is = inl is
      at (suc k) below is = inr (k, omega (arith, below), is)

  -- ---- tests

  pub found : (test : A → Bool) (xs : List A) → IsTrue (list_any test xs) → (x : A) × (Contains xs x) × IsTrue (test x)
  found test [] h = absurd (false≢true h)
  found test (x ∷ xs) h =
      elim (or_cases (test x) (list_any test xs) h) [
        | inl here ↦ (x, has_first x x xs refl, here)
        | inr there ↦ let it = found test xs there in (it.0, has_later x it.0 xs it.1, it.2)
      ]

  pub passes : (test : A → Bool) (xs : List A) (x : A) → Contains xs x → IsTrue (test x) → IsTrue (list_any test xs)
  passes test [] x among h = absurd (has_none x among)
  passes test (y ∷ ys) x among h =
      elim (has_cases y x ys among) [
        | inl here ↦ or_left (test y) (list_any test ys) (ap test here ∙ h)
        | inr there ↦ or_right (test y) (list_any test ys) (passes test ys x there h)
      ]

  pub each : (test : A → Bool) (xs : List A) → IsTrue (list_all test xs) → (x : A) → Contains xs x → IsTrue (test x)
  each test [] h x among = absurd (has_none x among)
  each test (y ∷ ys) h x among =
      let parts = and_parts (test y) (list_all test ys) h in
      elim (has_cases y x ys among) [
        | inl here ↦ sym (ap test here) ∙ parts.0
        | inr there ↦ each test ys parts.1 x there
      ]

  pub all : (test : A → Bool) (xs : List A) → ((x : A) → Contains xs x → IsTrue (test x)) → IsTrue (list_all test xs)
  all test [] h = refl
  all test (y ∷ ys) h =
      and_from (test y) (list_all test ys) (h y (has_first y y ys refl)) (all test ys (λ x among. h x (has_later y x ys among)))

  -- ---- lists that are sifted

  pub kept : (test : A → Bool) (xs : List A) (x : A) → Contains (filter test xs) x → (Contains xs x) × IsTrue (test x)
  kept test [] x among = absurd (has_none x among)
  kept test (y ∷ ys) x among = by (test y) refl (kept test ys x) among
    where
      by : (b : Bool) → test y ≡ b → (Contains (filter test ys) x → (Contains ys x) × IsTrue (test x))
          → Contains (cond b (y ∷ filter test ys) (filter test ys)) x → (Contains (y ∷ ys) x) × IsTrue (test x)
      by true is more has =
          elim (has_cases y x (filter test ys) has) [
            | inl here ↦ (has_first y x ys here, sym (ap test here) ∙ is)
            | inr there ↦ let it = more there in (has_later y x ys it.0, it.1)
          ]
      by false is more has = let it = more has in (has_later y x ys it.0, it.1)

  pub keeps : (test : A → Bool) (xs : List A) (x : A) → Contains xs x → IsTrue (test x) → Contains (filter test xs) x
  keeps test [] x among h = absurd (has_none x among)
  keeps test (y ∷ ys) x among h = by (test y) refl (λ there. keeps test ys x there h) (has_cases y x ys among)
    where
      by : (b : Bool) → test y ≡ b → (Contains ys x → Contains (filter test ys) x) → (y ≡ x) ⊎ Contains ys x
          → Contains (cond b (y ∷ filter test ys) (filter test ys)) x
      by true is more (inl here) = has_first y x (filter test ys) here
      by true is more (inr there) = has_later y x (filter test ys) (more there)
      by false is more (inl here) = absurd (false≢true (sym is ∙ ap test here ∙ h))
      by false is more (inr there) = more there

-- ---- lists that are mapped

pub mapped : {A B : Type 0} (f : A → B) (xs : List A) (y : B) → Contains (map f xs) y → (x : A) × (Contains xs x) × (y ≡ f x)
mapped f [] y among = absurd (has_none y among)
mapped f (x ∷ xs) y among =
    elim (has_cases (f x) y (map f xs) among) [
      | inl here ↦ (x, has_first x x xs refl, sym here)
      | inr there ↦ let it = mapped f xs y there in (it.0, has_later x it.0 xs it.1, it.2)
    ]

pub maps : {A B : Type 0} (f : A → B) (xs : List A) (x : A) (y : B) → Contains xs x → y ≡ f x → Contains (map f xs) y
maps f [] x y among is = absurd (has_none x among)
maps f (z ∷ zs) x y among is =
    elim (has_cases z x zs among) [
      | inl here ↦ has_first (f z) y (map f zs) (ap f here ∙ sym is)
      | inr there ↦ has_later (f z) y (map f zs) (maps f zs x y there is)
    ]

-- what stands at a place
pub at_place : {A B : Type 0} (f : A → List B) (xs : List A) (i : ℕ) (x : A) → slice_get xs i ≡ Some x → get_or (map f xs) i [] ≡ f x
at_place f [] i x is = absurd (none-some x is)
at_place f (y ∷ ys) zero x is = ap f (same_Some y x is)
at_place f (y ∷ ys) (suc i) x is = at_place f ys i x is

pub at_any : {A B : Type 0} (f : List A → List B) → f [] ≡ [] → (xs : List (List A)) (i : ℕ) → get_or (map f xs) i [] ≡ f (get_or xs i [])
at_any f none [] i = sym none
at_any f none (x ∷ xs) zero = refl
at_any f none (x ∷ xs) (suc i) = at_any f none xs i

-- ---- lists that are joined

pub gathered : {A B : Type 0} (f : A → List B) (xs : List A) (y : B) → Contains (flat_map f xs) y → (x : A) × (Contains xs x) × Contains (f x) y
gathered f [] y among = absurd (has_none y among)
gathered f (x ∷ xs) y among =
    elim (Contains-append_cases (f x) (flat_map f xs) y among) [
      | inl here ↦ (x, has_first x x xs refl, here)
      | inr there ↦ let it = gathered f xs y there in (it.0, has_later x it.0 xs it.1, it.2)
    ]

pub scattered : {A B : Type 0} (f : A → List B) (xs : List A) (x : A) (y : B) → Contains xs x → Contains (f x) y → Contains (flat_map f xs) y
scattered f [] x y among has = absurd (has_none x among)
scattered f (z ∷ zs) x y among has =
    elim (has_cases z x zs among) [
      | inl here ↦ Contains-append_left (f z) (flat_map f zs) y (subst (λ w. Contains (f w) y) (sym here) has)
      | inr there ↦ Contains-append_right (f z) (flat_map f zs) y (scattered f zs x y there has)
    ]
