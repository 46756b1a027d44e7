-- The places under which the names that wait are marked.
use Rattle.std.proofs.Common.{◌≡◌, ℕ, ◌+◌, ◌<◌, List, [], ◌∷◌, ◌++◌, length, map, String, string_bytes, IfSome, get_or, Bool, cond, true, false, Option, Some, None, inl, inr, refl, ap, sym, ◌∙◌, subst, arith}
use Rattle.std.proofs.lemmas.Bool.{cases_lt}
use Rattle.std.proofs.lemmas.List.Folds.{list_any_at}
use Rattle.std.proofs.lemmas.Map.Keys.{any_passes_from_place}
use Rattle.std.proofs.lemmas.Option.{slice_get-get_or}
use Rattle.std.specs.Str.{bytes_eq}
use Rattle.std.specs.List.{list_any, slice_get}
use Rattle.std.specs.Option.{option_map_or, option_to_list}
use Rattle.fhir_json.specs.Tree.{Text}
use Rattle.fhir_names.specs.Places.{Places, place_of, Puts}
use Rattle.fhir_asking.specs.Settling.{IsApart, Marks}
use Rattle.fhir_asking.proofs.Lists.{get_front, get_last, length_snoc, place_in, same, differs, seen_snoc}

-- a name that stands in the list differs from one that doesn't
apart_at : (xs : List Text) (y : Text) (k : ℕ) → k < length xs → IsApart y xs → bytes_eq (get_or xs k []) y ≡ false
apart_at xs y k h apart =
    differs (get_or xs k []) y xs (list_any_at (bytes_eq (get_or xs k [])) xs k [] h (same (get_or xs k []))) apart (bytes_eq (get_or xs k []) y) refl

-- the marks stay as another name is marked
pub marks_kept : (old new : Places) (xs : List Text) (y : Text) (place : ℕ) → Marks old xs → IsApart y xs → Puts old new y place → Marks new xs
marks_kept old new xs y place marks apart puts k h =
    puts (get_or xs k [])
    ∙ ap (λ (b : Bool). cond b (Some place) (place_of old (get_or xs k []))) (apart_at xs y k h apart)
    ∙ marks k h

marks_at : (places : Places) (xs : List Text) (y : Text) (k n : ℕ) → n ≡ length xs → place_of places y ≡ Some n → k < length (xs ++ y ∷ []) → (k < length xs → place_of places (get_or xs k []) ≡ Some k) → place_of places (get_or (xs ++ y ∷ []) k []) ≡ Some k
marks_at places xs y k n e at h before =
    let len : length (xs ++ y ∷ []) ≡ length xs + 1 = length_snoc xs y in
    elim (cases_lt k (length xs)) as (λ s. place_of places (get_or (xs ++ y ∷ []) k []) ≡ Some k) [
      | inl l ↦ ap (place_of places) (get_front xs (y ∷ []) k l) ∙ before l
      | inr g ↦
          let is : k ≡ length xs = omega arith in
          ap (place_of places) (get_last xs y k is) ∙ at ∙ ap Some (e ∙ sym is)
    ]

-- a name with its mark comes at the end
pub marks_more : (old new : Places) (xs : List Text) (y : Text) (n : ℕ) → Marks old xs → IsApart y xs → n ≡ length xs → Puts old new y n → Marks new (xs ++ y ∷ [])
marks_more old new xs y n marks apart e puts k h =
    let at : place_of new y ≡ Some n = puts y ∙ ap (λ (b : Bool). cond b (Some n) (place_of old y)) (same y) in
    marks_at new xs y k n e at h (marks_kept old new xs y n marks apart puts k)

-- the marks of fewer
pub marks_front : (places : Places) (xs : List Text) (y : Text) → Marks places (xs ++ y ∷ []) → Marks places xs
marks_front places xs y marks k h =
    let more : k < length (xs ++ y ∷ []) = omega (arith, length_snoc xs y) in
    ap (place_of places) (sym (get_front xs (y ∷ []) k h)) ∙ marks k more

-- the mark of a name that the list has
marked : (places : Places) (xs : List Text) (y : Text) → Marks places xs → list_any (bytes_eq y) xs ≡ true → (j : ℕ) × (j < length xs) × (get_or xs j [] ≡ y) × (place_of places y ≡ Some j)
marked places xs y marks e =
    let at = place_in y xs e in
    (at.0, at.1, at.2, ap (place_of places) (sym at.2) ∙ marks at.0 at.1)

-- marked names are different ones
apart_by : (places : Places) (xs : List Text) (y : Text) → Marks places (xs ++ y ∷ []) → (b : Bool) → list_any (bytes_eq y) xs ≡ b → b ≡ false
apart_by places xs y marks false is = refl
apart_by places xs y marks true is =
    let at = marked places xs y (marks_front places xs y marks) is in
    let less : length xs < length (xs ++ y ∷ []) = omega (arith, length_snoc xs y) in
    let end : place_of places y ≡ Some (length xs) = ap (place_of places) (sym (get_last xs y (length xs) refl)) ∙ marks (length xs) less in
    let both : Some at.0 ≡ Some (length xs) = sym at.3 ∙ end in
    let one : at.0 ≡ length xs = cc in
    absurd (omega (arith, at.1, one))

pub marks_apart : (places : Places) (xs : List Text) (y : Text) → Marks places (xs ++ y ∷ []) → IsApart y xs
marks_apart places xs y marks = apart_by places xs y marks (list_any (bytes_eq y) xs) refl

-- ---- looking up

read_at : (xs : List Text) (y : Text) (k : ℕ) → list_any (bytes_eq y) xs ≡ false → (o : Option Text) → slice_get xs k ≡ o → (b : Bool) → option_map_or (bytes_eq y) o false ≡ b → b ≡ false
read_at xs y k none None is b e = sym e
read_at xs y k none (Some z) is false e = refl
read_at xs y k none (Some z) is true e =
    let there : list_any (bytes_eq y) xs ≡ true = any_passes_from_place (bytes_eq y) xs k z is e in cc

reads : (places : Places) (xs : List Text) (y : Text) (k : ℕ) → Marks places xs → place_of places y ≡ Some k → (b : Bool) → list_any (bytes_eq y) xs ≡ b → option_map_or (bytes_eq y) (slice_get xs k) false ≡ b
reads places xs y k marks e false is = read_at xs y k is (slice_get xs k) refl (option_map_or (bytes_eq y) (slice_get xs k) false) refl
reads places xs y k marks e true is =
    let at = marked places xs y marks is in
    let both : Some at.0 ≡ Some k = sym at.3 ∙ e in
    let one : at.0 ≡ k = cc in
    ap (λ (i : ℕ). option_map_or (bytes_eq y) (slice_get xs i) false) (sym one)
    ∙ ap (λ (o : Option Text). option_map_or (bytes_eq y) o false) (slice_get-get_or xs at.0 [] at.1)
    ∙ ap (bytes_eq y) at.2
    ∙ same y

-- a name that has a mark waits where it stands there
pub has_marked : (places : Places) (xs : List Text) (y : Text) (k : ℕ) → Marks places xs → place_of places y ≡ Some k → option_map_or (bytes_eq y) (slice_get xs k) false ≡ list_any (bytes_eq y) xs
has_marked places xs y k marks e = reads places xs y k marks e (list_any (bytes_eq y) xs) refl

unmarked : (places : Places) (xs : List Text) (y : Text) → Marks places xs → place_of places y ≡ None → (b : Bool) → list_any (bytes_eq y) xs ≡ b → false ≡ b
unmarked places xs y marks e false is = refl
unmarked places xs y marks e true is = let at = marked places xs y marks is in let both : Some at.0 ≡ None = sym at.3 ∙ e in cc

-- a name that has none doesn't wait
pub has_unmarked : (places : Places) (xs : List Text) (y : Text) → Marks places xs → place_of places y ≡ None → false ≡ list_any (bytes_eq y) xs
has_unmarked places xs y marks e = unmarked places xs y marks e (list_any (bytes_eq y) xs) refl

-- what is popped is none of the others
module _ {Z : Type 0} where
  pub popped_apart : (places : Places) (old new : List (String Z)) (o : Option (String Z)) → Marks places (map string_bytes old) → old ≡ new ++ option_to_list o → IfSome o (λ name. IsApart (string_bytes name) (map string_bytes new))
  popped_apart places old new None marks e = tt
  popped_apart places old new (Some name) marks e =
      marks_apart places (map string_bytes new) (string_bytes name) (subst (Marks places) (seen_snoc new name old e) marks)
