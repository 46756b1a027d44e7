-- Lists of names that grow and shrink at their end, and what stands in them.
use Rattle.std.proofs.Common.{◌≡◌, ℕ, zero, suc, ◌+◌, ◌-◌, ◌<◌, List, [], ◌∷◌, ◌++◌, length, take, map, Some, None, String, string_bytes, get_or, Bool, true, false, ◌||◌, refl, ap, sym, ◌∙◌, arith, length-append}
use Rattle.std.proofs.Math.Seq.{take-length}
use Rattle.std.proofs.lemmas.List.{map-append, length-map, take_more, get_or-map}
use Rattle.std.proofs.lemmas.Option.{slice_get_within, get_or_from_slice_get, slice_get-get_or}
use Rattle.std.proofs.lemmas.Slice.Eq.{bytes_eq-Decides}
use Rattle.std.proofs.lemmas.List.Folds.{list_any-append}
use Rattle.std.specs.Str.{bytes_eq}
use Rattle.std.specs.List.{list_any, slice_get}
use Rattle.fhir_json.specs.Tree.{Text}
use Rattle.fhir_asking.specs.Settling.{IsApart, top_of}

pub get_front : (xs ys : List Text) (k : ℕ) → k < length xs → get_or (xs ++ ys) k [] ≡ get_or xs k []
get_front [] ys k h = absurd (omega arith)
get_front (x ∷ xs) ys zero h = refl
get_front (x ∷ xs) ys (suc k) h = let less : k < length xs = omega arith in get_front xs ys k less

pub get_last : (xs : List Text) (y : Text) (k : ℕ) → k ≡ length xs → get_or (xs ++ y ∷ []) k [] ≡ y
get_last [] y zero h = refl
get_last [] y (suc k) h = absurd (omega arith)
get_last (x ∷ xs) y zero h = absurd (omega arith)
get_last (x ∷ xs) y (suc k) h = let same : k ≡ length xs = omega arith in get_last xs y k same

pub length_snoc : (xs : List Text) (y : Text) → length (xs ++ y ∷ []) ≡ length xs + 1
length_snoc xs y = length-append xs (y ∷ [])

-- names that are some end in the last of them
pub snoc_of : (xs : List Text) → 0 < length xs → xs ≡ take (length xs - 1) xs ++ top_of xs ∷ []
snoc_of xs h =
    let less : length xs - 1 < length xs = omega arith in
    let len : length xs ≡ length xs - 1 + 1 = omega arith in
    sym (take-length xs) ∙ ap (λ (n : ℕ). take n xs) len ∙ take_more xs (length xs - 1) [] less

pub top_is : (xs ys : List Text) (y : Text) → xs ≡ ys ++ y ∷ [] → top_of xs ≡ y
top_is xs ys y e =
    let last : length (ys ++ y ∷ []) - 1 ≡ length ys = omega (arith, length_snoc ys y) in
    ap top_of e ∙ get_last ys y (length (ys ++ y ∷ []) - 1) last

-- the place of a name that a list has
place_at : (y x : Text) (xs : List Text) → (list_any (bytes_eq y) xs ≡ true → (j : ℕ) × (j < length xs) × (get_or xs j [] ≡ y)) → (b : Bool) → bytes_eq y x ≡ b → (b || list_any (bytes_eq y) xs) ≡ true → (j : ℕ) × (j < length (x ∷ xs)) × (get_or (x ∷ xs) j [] ≡ y)
place_at y x xs ih true is e =
    let less : 0 < length (x ∷ xs) = omega arith in
    (0, less, sym ((bytes_eq-Decides y x).0 is))
place_at y x xs ih false is e =
    let r = ih e in
    let less : suc r.0 < length (x ∷ xs) = omega (arith, r.1) in
    (suc r.0, less, r.2)

pub place_in : (y : Text) (xs : List Text) → list_any (bytes_eq y) xs ≡ true → (j : ℕ) × (j < length xs) × (get_or xs j [] ≡ y)
place_in y [] e = cc
place_in y (x ∷ xs) e = place_at y x xs (place_in y xs) (bytes_eq y x) refl e

-- a name equals itself
pub same : (x : Text) → bytes_eq x x ≡ true
same x = (bytes_eq-Decides x x).1 refl

-- what a list has, it has with one more at its end
pub any_front : (z : Text) (xs : List Text) (y : Text) → list_any (bytes_eq z) xs ≡ true → list_any (bytes_eq z) (xs ++ y ∷ []) ≡ true
any_front z xs y e = list_any-append (bytes_eq z) xs (y ∷ []) ∙ ap (λ (b : Bool). b || list_any (bytes_eq z) (y ∷ [])) e

or_end : (b : Bool) → (b || (true || false)) ≡ true
or_end true = refl
or_end false = refl

-- what stands at the end stands in the list
pub any_end : (xs : List Text) (y : Text) → list_any (bytes_eq y) (xs ++ y ∷ []) ≡ true
any_end xs y =
    list_any-append (bytes_eq y) xs (y ∷ [])
    ∙ ap (λ (b : Bool). list_any (bytes_eq y) xs || (b || false)) (same y)
    ∙ or_end (list_any (bytes_eq y) xs)

or_true : (a b : Bool) → (a || (b || false)) ≡ true → a ≡ false → b ≡ true
or_true false true e f = refl
or_true false false e f = cc
or_true true b e f = cc

-- what a list with one more has and the list hasn't is that one
pub any_last : (z : Text) (xs : List Text) (y : Text) → list_any (bytes_eq z) (xs ++ y ∷ []) ≡ true → list_any (bytes_eq z) xs ≡ false → z ≡ y
any_last z xs y e f =
    (bytes_eq-Decides z y).0
    (or_true (list_any (bytes_eq z) xs) (bytes_eq z y) (sym (list_any-append (bytes_eq z) xs (y ∷ [])) ∙ e) f)

-- what a list has differs from what it hasn't
pub differs : (z y : Text) (xs : List Text) → list_any (bytes_eq z) xs ≡ true → IsApart y xs → (b : Bool) → bytes_eq z y ≡ b → b ≡ false
differs z y xs e f false is = refl
differs z y xs e f true is =
    let there : list_any (bytes_eq y) xs ≡ true = ap (λ (n : Text). list_any (bytes_eq n) xs) (sym ((bytes_eq-Decides z y).0 is)) ∙ e in cc

-- one more text at the end of texts
module _ {Z : Type 0} where
  pub seen_snoc : (ss : List (String Z)) (s : String Z) (ts : List (String Z)) → ts ≡ ss ++ s ∷ [] → map string_bytes ts ≡ map string_bytes ss ++ string_bytes s ∷ []
  seen_snoc ss s ts e = ap (map string_bytes) e ∙ map-append string_bytes ss (s ∷ [])

  length-texts : (ss : List (String Z)) → length (map string_bytes ss) ≡ length ss
  length-texts ss = length-map ss string_bytes

  -- the last of texts that are some, or of none
  pub last_text : (ss : List (String Z)) (s : String Z) → slice_get ss (length ss - 1) ≡ Some s → string_bytes s ≡ top_of (map string_bytes ss)
  last_text ss s e =
      let within : length ss - 1 < length ss = slice_get_within ss (length ss - 1) s e in
      sym (ap (λ (n : ℕ). get_or (map string_bytes ss) (n - 1) []) (length-texts ss) ∙ get_or-map string_bytes ss (length ss - 1) s [] within ∙ ap string_bytes (get_or_from_slice_get ss (length ss - 1) s s e))

  pub no_text : (ss : List (String Z)) → slice_get ss (length ss - 1) ≡ None → [] ≡ top_of (map string_bytes ss)
  no_text [] e = refl
  no_text (s ∷ ss) e =
      let less : length (s ∷ ss) - 1 < length (s ∷ ss) = omega arith in
      let there = slice_get-get_or (s ∷ ss) (length (s ∷ ss) - 1) s less in cc
