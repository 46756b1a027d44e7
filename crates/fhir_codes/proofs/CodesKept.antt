-- A code of a subset is a code of the set.
use Rattle.std.proofs.Common.{◌≡◌, Bool, true, List, [], ◌∷◌, sym, ap, ◌∙◌, inl, inr}
use Rattle.std.specs.List.{list_any, list_all}
use Rattle.std.specs.Str.{bytes_eq}
use Rattle.std.specs.FinSet.{items, contains, is_subset, is_subset-contains, contains-items}
use Rattle.std.proofs.lemmas.Bool.{and_parts, or_cases, or_left, or_right}
use mathlib.Core.Bool.{false≢true}
use Rattle.fhir_json.specs.Tree.{Text}
use Rattle.fhir_codes.specs.Concepts.{Concept, Concepts, has_code}
use Rattle.fhir_codes.proofs.Members.{same, one_concept, concept_total, each_all}

module _ (p : Concept → Bool) where
  passes : (x : Concept) → p x ≡ true → (ys : List Concept) → list_any (same x) ys ≡ true → list_any p ys ≡ true
  passes x is [] there = absurd (false≢true there)
  passes x is (y ∷ ys) there =
      elim (or_cases (same x y) (list_any (same x) ys) there) [
        | inl here ↦ or_left (p y) (list_any p ys) (sym (ap p (one_concept x y here)) ∙ is)
        | inr behind ↦ or_right (p y) (list_any p ys) (passes x is ys behind)
      ]

  passes_within : (s : Concepts) (xs : List Concept) → list_all (contains s) xs ≡ true → list_any p xs ≡ true → list_any p (items s) ≡ true
  passes_within s [] all some = absurd (false≢true some)
  passes_within s (x ∷ xs) all some =
      let each = and_parts (contains s x) (list_all (contains s) xs) all in
      elim (or_cases (p x) (list_any p xs) some) [
        | inl here ↦ passes x here (items s) (sym (contains-items s x) ∙ each.0)
        | inr behind ↦ passes_within s xs each.1 behind
      ]

pub code_kept : (a b : Concepts) (code : Text) → is_subset a b ≡ true → has_code code a ≡ true → has_code code b ≡ true
code_kept a b code within =
    passes_within (λ c. bytes_eq code c.code) b (items a)
    (each_all (contains b) (items a) (λ c there. is_subset-contains concept_total a b within c (contains-items a c ∙ there)))
