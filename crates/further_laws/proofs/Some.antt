-- What passes a test of any is one that passes.
use Rattle.std.proofs.Common.{◌≡◌, ◌↔◌, ◌<◌, ℕ, zero, suc, Bool, true, List, [], ◌∷◌, length, refl, ap, ◌∙◌, inl, inr, ◌⊎◌, ◌||◌, IsTrue, arith}
use Rattle.std.specs.List.{list_any, slice_index_or, Contains}
use Rattle.std.proofs.lemmas.Bool.{or_cases, or_left, or_right, false≢true}
use Rattle.fhir_json.specs.Tree.{Text}
use Rattle.fhir_json.specs.Bytes.{is_empty}

found : (test : Text → Bool) (xs : List Text) → list_any test xs ≡ true → (x : Text) × (Contains xs x) × IsTrue (test x)
found test [] h = absurd (false≢true h)
found test (x ∷ xs) h =
    elim (or_cases (test x) (list_any test xs) h) [
      | inl here ↦ (x, (0, omega arith, refl), here)
      | inr there ↦
          let it = found test xs there in
          (it.0, (suc it.1.0, omega (arith, it.1.1), it.1.2), it.2)
    ]

passes : (test : Text → Bool) (xs : List Text) (x : Text) → Contains xs x → IsTrue (test x) → list_any test xs ≡ true
passes test [] x among h = absurd (omega (arith, among.1))
passes test (y ∷ ys) x among h = at (λ rest. passes test ys x rest h) among.0 among.1 among.2
  where
    at : (Contains ys x → list_any test ys ≡ true) → (k : ℕ) → k < length (y ∷ ys) → slice_index_or (y ∷ ys) k x ≡ x → list_any test (y ∷ ys) ≡ true
    at more zero below is = or_left (test y) (list_any test ys) (ap test is ∙ h)
    at more (suc k) below is = or_right (test y) (list_any test ys) (more (k, omega (arith, below), is))

empty : (xs : List Text) → is_empty xs ≡ true → xs ≡ []
empty [] h = refl
empty (x ∷ xs) h = absurd (false≢true h)

pub one_of : (test : Text → Bool) (xs : List Text)
    → IsTrue (is_empty xs || list_any test xs) ↔ ((xs ≡ []) ⊎ ((x : Text) × (Contains xs x) × IsTrue (test x)))
one_of test xs = (there, back)
  where
    there : IsTrue (is_empty xs || list_any test xs) → (xs ≡ []) ⊎ ((x : Text) × (Contains xs x) × IsTrue (test x))
    there h =
        elim (or_cases (is_empty xs) (list_any test xs) h) [
          | inl none ↦ inl (empty xs none)
          | inr some ↦ inr (found test xs some)
        ]

    back : (xs ≡ []) ⊎ ((x : Text) × (Contains xs x) × IsTrue (test x)) → IsTrue (is_empty xs || list_any test xs)
    back (inl none) = or_left (is_empty xs) (list_any test xs) (ap is_empty none)
    back (inr some) = or_right (is_empty xs) (list_any test xs) (passes test xs some.0 some.1 some.2)
