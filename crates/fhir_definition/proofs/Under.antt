-- Elements stand in the list of the one that they stand under, and in no other.
use Rattle.std.proofs.Common.{◌≡◌, ◌<◌, ℕ, zero, suc, ◌+◌, Bool, true, false, List, [], ◌∷◌, map, length, get_or, Option, None, Some, refl}
use Rattle.std.proofs.Common.{sym, ap, subst, ◌∙◌, inl, inr, arith, if◌then◌else◌}
use Rattle.std.specs.List.{slice_get, Contains}
use Rattle.std.proofs.lemmas.Bool.Decides.{nat_tests}
use Rattle.std.proofs.lemmas.Option.{none-some, same_Some}
use Rattle.std.proofs.lemmas.List.{length-map}
use Rattle.std.proofs.lemmas.List.Elements.{Contains-push, Contains-push_cases, Contains-append_left, Contains-append_right, Contains-append_cases}
use Rattle.fhir_elements.specs.Element.{Element}
use Rattle.fhir_definition.specs.Snapshot.{is_at}
use Rattle.fhir_definition.specs.Children.{under_from, under_each, under_each_from}
use Rattle.fhir_definition.specs.Standing.{StandsUnder, AreUnderEach}

at_is : (p : ℕ) (up : Option ℕ) → is_at p up ≡ true → up ≡ Some p
at_is p None e = cc
at_is p (Some q) e = let same : q ≡ p = grind (arith, nat_tests) in ap Some same

is_there : (p : ℕ) (up : Option ℕ) → up ≡ Some p → is_at p up ≡ true
is_there p None e = cc
is_there p (Some q) e = let same : q ≡ p = same_Some q p e in grind (arith, nat_tests)

nothing_in : (k : ℕ) → Contains [] k → ⊥
nothing_in k h = omega (arith, h.1)

-- what is found at a place stands under p
Found : ℕ → ℕ → List (Option ℕ) → ℕ → Type 0
Found p i ups k = (j : ℕ) × (k ≡ i + j) × (slice_get ups j ≡ Some (Some p))

under_found : (p i : ℕ) (ups : List (Option ℕ)) (k : ℕ) → Contains (under_from p i ups) k → Found p i ups k
unfolding Found
under_found p i [] k h = absurd (nothing_in k h)
under_found p i (up ∷ ups) k h = go (is_at p up) refl h (under_found p (suc i) ups k)
  where
    later : Found p (suc i) ups k → Found p i (up ∷ ups) k
    later f = (suc f.0, omega (arith, f.1), f.2)

    go : (b : Bool) → is_at p up ≡ b → Contains (if b then i ∷ under_from p (suc i) ups else under_from p (suc i) ups) k
        → (Contains (under_from p (suc i) ups) k → Found p (suc i) ups k) → Found p i (up ∷ ups) k
    go false is h rest = later (rest h)
    go true is h rest =
        elim (Contains-append_cases (i ∷ []) (under_from p (suc i) ups) k h) [
          | inl first ↦ elim (Contains-push_cases [] i k first) [
            | inl nowhere ↦ absurd (nothing_in k nowhere)
            | inr e ↦ (0, omega (arith, e), ap Some (at_is p up is))
          ]
          | inr behind ↦ later (rest behind)
        ]

under_has : (p i : ℕ) (ups : List (Option ℕ)) (j : ℕ) → slice_get ups j ≡ Some (Some p) → Contains (under_from p i ups) (i + j)
under_has p i [] j e = absurd (none-some (Some p) e)
under_has p i (up ∷ ups) zero e = go (is_at p up) refl
  where
    go : (b : Bool) → is_at p up ≡ b → Contains (if b then i ∷ under_from p (suc i) ups else under_from p (suc i) ups) (i + 0)
    go true is =
        let here : i + 0 ≡ i = omega arith in
        subst (λ k. Contains (i ∷ under_from p (suc i) ups) k) (sym here)
        (Contains-append_left (i ∷ []) (under_from p (suc i) ups) i (Contains-push [] i))
    go false is = let there : is_at p up ≡ true = is_there p up (same_Some up (Some p) e) in cc
under_has p i (up ∷ ups) (suc j) e = go (is_at p up) (under_has p (suc i) ups j e)
  where
    next : suc i + j ≡ i + suc j
    next = omega arith

    go : (b : Bool) → Contains (under_from p (suc i) ups) (suc i + j)
        → Contains (if b then i ∷ under_from p (suc i) ups else under_from p (suc i) ups) (i + suc j)
    go true h =
        subst (λ k. Contains (i ∷ under_from p (suc i) ups) k) next
        (Contains-append_right (i ∷ []) (under_from p (suc i) ups) (suc i + j) h)
    go false h = subst (λ k. Contains (under_from p (suc i) ups) k) next h

each_at : (p n : ℕ) (ups : List (Option ℕ)) (q : ℕ) → q < n → get_or (under_each_from p n ups) q [] ≡ under_from (p + q) 0 ups
each_at p zero ups q h = absurd (omega arith)
each_at p (suc n) ups zero h = let here : p ≡ p + 0 = omega arith in ap (λ k. under_from k 0 ups) here
each_at p (suc n) ups (suc q) h =
    let next : suc p + q ≡ p + suc q = omega arith in
    each_at (suc p) n ups q (omega arith) ∙ ap (λ k. under_from k 0 ups) next

module _ (f : Element → Option ℕ) where
  of_element : (es : List Element) (k q : ℕ) → slice_get (map f es) k ≡ Some (Some q) → StandsUnder f es k q
  of_element [] k q e = absurd (none-some (Some q) e)
  of_element (x ∷ es) zero q e = (x, refl, same_Some (f x) (Some q) e)
  of_element (x ∷ es) (suc k) q e = of_element es k q e

  of_place : (es : List Element) (k q : ℕ) (x : Element) → slice_get es k ≡ Some x → f x ≡ Some q → slice_get (map f es) k ≡ Some (Some q)
  of_place [] k q x e g = absurd (none-some x e)
  of_place (y ∷ es) zero q x e g = ap Some (ap f (same_Some y x e) ∙ g)
  of_place (y ∷ es) (suc k) q x e g = of_place es k q x e g

  pub are_under_each : (es : List Element) → AreUnderEach f es (under_each (map f es))
  unfolding Found
  are_under_each es over place h = (there, back)
    where
      within : over < length (map f es)
      within = omega (arith, length-map es f)

      here : get_or (under_each (map f es)) over [] ≡ under_from over 0 (map f es)
      here =
          let same : 0 + over ≡ over = omega arith in
          each_at 0 (length (map f es)) (map f es) over within ∙ ap (λ k. under_from k 0 (map f es)) same

      there : Contains (get_or (under_each (map f es)) over []) place → StandsUnder f es place over
      there c =
          let found = under_found over 0 (map f es) place (subst (λ xs. Contains xs place) here c) in
          let same : found.0 ≡ place = omega (arith, found.1) in
          of_element es place over (ap (slice_get (map f es)) (sym same) ∙ found.2)

      back : StandsUnder f es place over → Contains (get_or (under_each (map f es)) over []) place
      back s =
          let same : 0 + place ≡ place = omega arith in
          subst (λ xs. Contains xs place) (sym here)
          (subst (λ k. Contains (under_from over 0 (map f es)) k) same (under_has over 0 (map f es) place (of_place es place over s.0 s.1 s.2)))
