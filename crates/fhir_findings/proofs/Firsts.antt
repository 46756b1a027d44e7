-- The first items of their texts, of a list that is one longer; and where an index has them.
use Rattle.std.proofs.Common.{◌≡◌, ℕ, ◌+◌, Bool, true, false, not, cond, ◌||◌, List, [], ◌∷◌, ◌++◌, map, filter, Option, Some, is_some, refl, ap, ◌∙◌}
use Rattle.std.specs.Cmp.{IsEquivalence}
use Rattle.std.specs.Cmp.Lexicographic.{on_texts_equal}
use Rattle.std.specs.List.{position_from}
use Rattle.std.specs.Str.{bytes_eq}
use Rattle.std.proofs.lemmas.List.{append-nil}
use Rattle.std.proofs.lemmas.List.Elements.{filter-append}
use Rattle.fhir_json.specs.Tree.{Text}
use Rattle.fhir_findings.specs.Firsts.{have_one_text, has_text_of, firsts}

any_step : (b q : Bool) (i : ℕ) (r : Option ℕ) → is_some r ≡ q → is_some (cond b (Some i) r) ≡ (b || q)
any_step true q i r e = refl
any_step false q i r e = e

module _ {A : Type 0} (text : A → Text) where
  pub laws : IsEquivalence (have_one_text text)
  laws = on_texts_equal text

  -- an index has a place for a text where one of the items has it
  pub has_place : (i : ℕ) (xs : List A) (x : A) → is_some (position_from (bytes_eq (text x)) i (map text xs)) ≡ has_text_of text xs x
  has_place i [] x = refl
  has_place i (y ∷ ys) x =
      any_step (bytes_eq (text x) (text y)) (has_text_of text ys x) i (position_from (bytes_eq (text x)) (i + 1) (map text ys)) (has_place (i + 1) ys x)

  -- of a list that is one longer
  pub firsts-snoc : (xs : List A) (x : A) → firsts text (xs ++ x ∷ []) ≡ cond (has_text_of text xs x) (firsts text xs) (firsts text xs ++ x ∷ [])
  firsts-snoc [] x = refl
  firsts-snoc (y ∷ ys) x =
      ap (λ (l : List A). y ∷ filter (λ z. not (have_one_text text y z)) l) (firsts-snoc ys x)
      ∙ by (has_text_of text ys x) (have_one_text text x y) (laws.symm y x)
    where
      by : (b c : Bool) → have_one_text text y x ≡ c
          → y ∷ filter (λ z. not (have_one_text text y z)) (cond b (firsts text ys) (firsts text ys ++ x ∷ []))
          ≡ cond (c || b) (firsts text (y ∷ ys)) (firsts text (y ∷ ys) ++ x ∷ [])
      by true true is = refl
      by true false is = refl
      by false c is =
          ap (λ (l : List A). y ∷ l) (filter-append (λ z. not (have_one_text text y z)) (firsts text ys) (x ∷ []))
          ∙ end c is
        where
          end : (c : Bool) → have_one_text text y x ≡ c
              → y ∷ (filter (λ z. not (have_one_text text y z)) (firsts text ys) ++ cond (not (have_one_text text y x)) (x ∷ []) [])
              ≡ cond (c || false) (firsts text (y ∷ ys)) (firsts text (y ∷ ys) ++ x ∷ [])
          end true is =
              ap (λ (b : Bool). y ∷ (filter (λ z. not (have_one_text text y z)) (firsts text ys) ++ cond (not b) (x ∷ []) [])) is
              ∙ ap (λ (l : List A). y ∷ l) (append-nil (filter (λ z. not (have_one_text text y z)) (firsts text ys)))
          end false is = ap (λ (b : Bool). y ∷ (filter (λ z. not (have_one_text text y z)) (firsts text ys) ++ cond (not b) (x ∷ []) [])) is
