-- What a list has, by cases on the list.
use Rattle.std.proofs.Common.{◌≡◌, ◌<◌, ℕ, zero, suc, get_or, Bool, true, false, cond, ◌||◌, List, [], ◌∷◌, ◌++◌, length, Option, Some, None, ◌⊎◌, refl, sym, ap, subst, ◌∙◌, inl, inr, arith}
use Rattle.std.specs.Prelude.{All, Contains, slice_index_or}
use Rattle.std.specs.List.{flat_map, filter_map, cons_option, find, list_any}
use Rattle.std.proofs.lemmas.List.Elements.{Contains-get_or, All-contains}

module _ {X : Type 0} where
  abbrev pub In : X → List X → Type 0
  In x [] = ⊥
  In x (y ∷ ys) = (y ≡ x) ⊎ In x ys

  at_index : (xs : List X) (k : ℕ) (x : X) → k < length xs → slice_index_or xs k x ≡ x → In x xs
  at_index [] k x l e = absurd (omega arith)
  at_index (y ∷ ys) zero x l e = inl e
  at_index (y ∷ ys) (suc k) x l e = inr (at_index ys k x (omega arith) e)

  pub in-contained : (xs : List X) (x : X) → Contains xs x → In x xs
  in-contained xs x c = at_index xs c.0 x c.1 c.2

  pub contained-in : (xs : List X) (x : X) → In x xs → Contains xs x
  contained-in [] x h = absurd h
  contained-in (y ∷ ys) x h = elim h [
    | inl e ↦ (0, omega arith, e)
    | inr r ↦ let c = contained-in ys x r in (suc c.0, omega arith, c.2)
  ]

  pub in_left : (xs ys : List X) (x : X) → In x xs → In x (xs ++ ys)
  in_left [] ys x h = absurd h
  in_left (y ∷ xs) ys x h = elim h [ inl e ↦ inl e | inr r ↦ inr (in_left xs ys x r) ]

  pub in_right : (xs ys : List X) (x : X) → In x ys → In x (xs ++ ys)
  in_right [] ys x h = h
  in_right (y ∷ xs) ys x h = inr (in_right xs ys x h)

  pub in_either : (xs ys : List X) (x : X) → In x (xs ++ ys) → In x xs ⊎ In x ys
  in_either [] ys x h = inr h
  in_either (y ∷ xs) ys x h = elim h [
    | inl e ↦ inl (inl e)
    | inr r ↦ elim (in_either xs ys x r) [ inl a ↦ inl (inr a) | inr b ↦ inr b ]
  ]

module _ {X Y : Type 0} where
  pub in_flat_map : (f : X → List Y) (xs : List X) (x : X) (y : Y) → In x xs → In y (f x) → In y (flat_map f xs)
  in_flat_map f [] x y h i = absurd h
  in_flat_map f (z ∷ xs) x y h i = elim h [
    | inl e ↦ let P : X → Type 0 = λ w. In y (f w) in in_left (f z) (flat_map f xs) y (subst P (sym e) i)
    | inr r ↦ in_right (f z) (flat_map f xs) y (in_flat_map f xs x y r i)
  ]

  pub from_flat_map : (f : X → List Y) (xs : List X) (y : Y) → In y (flat_map f xs) → (x : X) × In x xs × In y (f x)
  from_flat_map f [] y h = absurd h
  from_flat_map f (z ∷ xs) y h = elim (in_either (f z) (flat_map f xs) y h) [
    | inl a ↦ (z, inl refl, a)
    | inr b ↦ let r = from_flat_map f xs y b in (r.0, inr r.1, r.2)
  ]

  pub in_filter_map : (f : X → Option Y) (xs : List X) (x : X) (y : Y) → In x xs → f x ≡ Some y → In y (filter_map f xs)
  in_filter_map f [] x y h e = absurd h
  in_filter_map f (z ∷ xs) x y h e = by (f z) refl (in_filter_map f xs x y) h
    where
      by : (o : Option Y) → f z ≡ o → (In x xs → f x ≡ Some y → In y (filter_map f xs)) → (z ≡ x) ⊎ In x xs → In y (cons_option o (filter_map f xs))
      by None is rest h = elim h [
        | inl same ↦ absurd (let bad : None ≡ Some y = sym is ∙ ap f same ∙ e in cc)
        | inr r ↦ rest r e
      ]
      by (Some w) is rest h = elim h [
        | inl same ↦ inl (let one : Some w ≡ Some y = sym is ∙ ap f same ∙ e in cc)
        | inr r ↦ inr (rest r e)
      ]

  pub from_filter_map : (f : X → Option Y) (xs : List X) (y : Y) → In y (filter_map f xs) → (x : X) × In x xs × (f x ≡ Some y)
  from_filter_map f [] y h = absurd h
  from_filter_map f (z ∷ xs) y h = by (f z) refl (from_filter_map f xs y) h
    where
      by : (o : Option Y) → f z ≡ o → (In y (filter_map f xs) → (x : X) × In x xs × (f x ≡ Some y)) → In y (cons_option o (filter_map f xs))
          → (x : X) × In x (z ∷ xs) × (f x ≡ Some y)
      by None is rest r = let s = rest r in (s.0, inr s.1, s.2)
      by (Some w) is rest r = elim r [
        | inl e ↦ (z, inl refl, is ∙ ap Some e)
        | inr q ↦ let s = rest q in (s.0, inr s.1, s.2)
      ]

module _ {X : Type 0} where
  pub any_in : (test : X → Bool) (xs : List X) (x : X) → In x xs → test x ≡ true → list_any test xs ≡ true
  any_in test [] x h e = absurd h
  any_in test (y ∷ xs) x h e = by (test y) refl (any_in test xs x) h
    where
      by : (b : Bool) → test y ≡ b → (In x xs → test x ≡ true → list_any test xs ≡ true) → (y ≡ x) ⊎ In x xs → (b || list_any test xs) ≡ true
      by true is rest h = refl
      by false isnt rest h = elim h [
        | inl same ↦ absurd (let bad : false ≡ true = sym isnt ∙ ap test same ∙ e in cc)
        | inr r ↦ rest r e
      ]

  pub from_any : (test : X → Bool) (xs : List X) → list_any test xs ≡ true → (x : X) × In x xs × (test x ≡ true)
  from_any test [] e = absurd (let bad : false ≡ true = e in cc)
  from_any test (y ∷ xs) e = by (test y) refl (from_any test xs) e
    where
      by : (b : Bool) → test y ≡ b → (list_any test xs ≡ true → (x : X) × In x xs × (test x ≡ true)) → (b || list_any test xs) ≡ true
          → (x : X) × In x (y ∷ xs) × (test x ≡ true)
      by true is rest e = (y, inl refl, is)
      by false isnt rest e = let s = rest e in (s.0, inr s.1, s.2)

  pub found_in : (test : X → Bool) (xs : List X) (x : X) → In x xs → test x ≡ true → find test xs ≡ None → ⊥
  found_in test [] x h e none = absurd h
  found_in test (y ∷ xs) x h e none = by (test y) refl (found_in test xs x) h none
    where
      by : (b : Bool) → test y ≡ b → (In x xs → test x ≡ true → find test xs ≡ None → ⊥) → (y ≡ x) ⊎ In x xs → cond b (Some y) (find test xs) ≡ None → ⊥
      by true is rest h none = let bad : Some y ≡ None = none in cc
      by false isnt rest h none = elim h [
        | inl same ↦ absurd (let bad : false ≡ true = sym isnt ∙ ap test same ∙ e in cc)
        | inr r ↦ rest r e none
      ]

  -- ---- what holds of each

  pub all_from : (P : X → Type 0) (xs : List X) → ((x : X) → In x xs → P x) → All P xs
  all_from P xs f = λ k d l. f (get_or xs k d) (in-contained xs (get_or xs k d) (Contains-get_or xs k d l))

  pub all_at : (P : X → Type 0) (xs : List X) (x : X) → All P xs → In x xs → P x
  all_at P xs x h i = All-contains P xs x h (contained-in xs x i)
