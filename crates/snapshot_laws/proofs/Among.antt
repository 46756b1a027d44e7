-- Texts in lists, and lists in which no text is there twice.
use Rattle.std.proofs.Common.{◌≡◌, ◌++◌, List, [], ◌∷◌, Bool, true, false, cond, refl, sym, ◌∙◌, subst, inl, inr, ◌⊎◌}
use Rattle.std.specs.Str.{bytes_eq}
use Rattle.std.proofs.lemmas.Bool.{or_cases, or_left, or_right, false≢true}
use Rattle.std.proofs.lemmas.Slice.Eq.{bytes_eq-Decides}
use Rattle.fhir_json.specs.Tree.{Text}
use Rattle.fhir_inheritance.specs.Lists.{is_among, with_text, with_others}

-- ---- what stands in a list

abbrev pub In : Text → List Text → Type 0
In x [] = ⊥
In x (y ∷ ys) = (x ≡ y) ⊎ In x ys

abbrev pub Each : (Text → Type 0) → List Text → Type 0
Each P xs = (x : Text) → In x xs → P x

pub in_left : (x : Text) (xs ys : List Text) → In x xs → In x (xs ++ ys)
in_left x [] ys h = absurd h
in_left x (y ∷ xs) ys (inl e) = inl e
in_left x (y ∷ xs) ys (inr h) = inr (in_left x xs ys h)

pub in_right : (x : Text) (xs ys : List Text) → In x ys → In x (xs ++ ys)
in_right x [] ys h = h
in_right x (y ∷ xs) ys h = inr (in_right x xs ys h)

pub in_cases : (x : Text) (xs ys : List Text) → In x (xs ++ ys) → In x xs ⊎ In x ys
in_cases x [] ys h = inr h
in_cases x (y ∷ xs) ys (inl e) = inl (inl e)
in_cases x (y ∷ xs) ys (inr h) =
    elim (in_cases x xs ys h) [
      | inl left ↦ inl (inr left)
      | inr right ↦ inr right
    ]

-- ---- the test

pub among_in : (xs : List Text) (x : Text) → is_among xs x ≡ true → In x xs
among_in [] x e = absurd (false≢true e)
among_in (y ∷ ys) x e =
    elim (or_cases (bytes_eq x y) (is_among ys x) e) [
      | inl here ↦ inl ((bytes_eq-Decides x y).0 here)
      | inr there ↦ inr (among_in ys x there)
    ]

pub in_among : (xs : List Text) (x : Text) → In x xs → is_among xs x ≡ true
in_among [] x h = absurd h
in_among (y ∷ ys) x (inl e) = or_left (bytes_eq x y) (is_among ys x) ((bytes_eq-Decides x y).1 e)
in_among (y ∷ ys) x (inr h) = or_right (bytes_eq x y) (is_among ys x) (in_among ys x h)

not_in : (xs : List Text) (x : Text) → is_among xs x ≡ false → In x xs → ⊥
not_in xs x none h = false≢true (sym none ∙ in_among xs x h)

-- ---- lists of different texts

abbrev pub Differ : List Text → Type 0
Differ [] = Unit {0}
Differ (x ∷ xs) = (In x xs → ⊥) × Differ xs

pub differ_both : (xs ys : List Text) → Differ xs → Differ ys → ((x : Text) → In x xs → In x ys → ⊥) → Differ (xs ++ ys)
differ_both [] ys one other apart = other
differ_both (x ∷ xs) ys one other apart = (
  λ h. elim (in_cases x xs ys h) [ inl left ↦ one.0 left | inr right ↦ apart x (inl refl) right ],
  differ_both xs ys one.1 other (λ y h. apart y (inr h)),
)

-- ---- one text more, and others more

text_cases : (xs : List Text) (y x : Text) (b : Bool) → In x (cond b xs (xs ++ y ∷ [])) → In x xs ⊎ (x ≡ y)
text_cases xs y x true h = inl h
text_cases xs y x false h =
    elim (in_cases x xs (y ∷ []) h) [
      | inl left ↦ inl left
      | inr right ↦ elim right [ inl e ↦ inr e | inr none ↦ absurd none ]
    ]

text_stays : (xs : List Text) (y x : Text) (b : Bool) → In x xs → In x (cond b xs (xs ++ y ∷ []))
text_stays xs y x true h = h
text_stays xs y x false h = in_left x xs (y ∷ []) h

text_there : (xs : List Text) (y : Text) (b : Bool) → is_among xs y ≡ b → In y (cond b xs (xs ++ y ∷ []))
text_there xs y true e = among_in xs y e
text_there xs y false e = in_right y xs (y ∷ []) (inl refl)

text_differs : (xs : List Text) (y : Text) (b : Bool) → is_among xs y ≡ b → Differ xs → Differ (cond b xs (xs ++ y ∷ []))
text_differs xs y true e d = d
text_differs xs y false e d =
    differ_both xs (y ∷ []) d (λ h. h, tt)
    (λ x h last. elim last [ inl is ↦ not_in xs y e (subst (λ z. In z xs) is h) | inr none ↦ none ])

pub others_cases : (xs ys : List Text) (x : Text) → In x (with_others xs ys) → In x xs ⊎ In x ys
others_cases xs [] x h = inl h
others_cases xs (y ∷ ys) x h =
    elim (others_cases (with_text xs y) ys x h) [
      | inl before ↦ elim (text_cases xs y x (is_among xs y) before) [ inl old ↦ inl old | inr is ↦ inr (inl is) ]
      | inr later ↦ inr (inr later)
    ]

pub others_stay : (xs ys : List Text) (x : Text) → In x xs → In x (with_others xs ys)
others_stay xs [] x h = h
others_stay xs (y ∷ ys) x h = others_stay (with_text xs y) ys x (text_stays xs y x (is_among xs y) h)

pub others_there : (xs ys : List Text) (x : Text) → In x ys → In x (with_others xs ys)
others_there xs [] x h = absurd h
others_there xs (y ∷ ys) x (inl e) =
    subst (λ z. In z (with_others xs (y ∷ ys))) (sym e) (others_stay (with_text xs y) ys y (text_there xs y (is_among xs y) refl))
others_there xs (y ∷ ys) x (inr h) = others_there (with_text xs y) ys x h

pub others_differ : (xs ys : List Text) → Differ xs → Differ (with_others xs ys)
others_differ xs [] d = d
others_differ xs (y ∷ ys) d = others_differ (with_text xs y) ys (text_differs xs y (is_among xs y) refl d)
