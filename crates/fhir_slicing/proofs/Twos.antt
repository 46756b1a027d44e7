-- The two slices to which an item belongs, found from the first to the last.
use Rattle.std.proofs.Common.{◌≡◌, Bool, true, false, not, ◌&&◌, ◌||◌, List, [], ◌∷◌, Option, None, Some, is_none, refl, sym, ap, ap₂, ◌∙◌}
use Rattle.std.specs.Prelude.{if◌then◌else◌}
use Rattle.std.specs.Option.{option_map, option_and_then}
use Rattle.std.specs.List.{find, list_all}
use Rattle.std.specs.Str.{bytes_eq}
use Rattle.std.proofs.lemmas.Bool.{and_parts, and_from}
use Rattle.std.proofs.lemmas.Slice.Eq.{bytes_eq-Decides}
use Rattle.fhir_json.specs.Tree.{Text}
use Rattle.fhir_nodes.specs.Slots.{Slot}

abbrev pub other_from : (Slot → Bool) → Slot → List Slot → Option (Slot × Slot)
other_from p one xs = option_map (λ other. (one, other)) (find (λ other. p other && not (bytes_eq one.name other.name)) xs)

abbrev pub two_from : (Slot → Bool) → Option Slot → List Slot → Option (Slot × Slot)
two_from p (Some one) xs = other_from p one xs
two_from p None [] = None
two_from p None (x ∷ xs) = if p x then other_from p x xs else two_from p None xs

module _ (p : Slot → Bool) where
  -- one of no other name, or to which the item doesn't belong, is passed over
  passed : (one x : Slot) (xs : List Slot) → (p x && not (bytes_eq one.name x.name)) ≡ false → other_from p one (x ∷ xs) ≡ other_from p one xs
  passed one x xs others =
      ap (λ (b : Bool). option_map (λ (other : Slot). (one, other)) (if b then Some x else find (λ (other : Slot). p other && not (bytes_eq one.name other.name)) xs)) others

  own_name : (x : Slot) → (p x && not (bytes_eq x.name x.name)) ≡ false
  own_name x = ap (λ (b : Bool). p x && not b) ((bytes_eq-Decides x.name x.name).1 refl) ∙ never (p x)
    where
      never : (b : Bool) → (b && false) ≡ false
      never true = refl
      never false = refl

  pub all_two : (xs : List Slot) → two_from p None xs ≡ option_and_then (λ one. other_from p one xs) (find p xs)
  all_two [] = refl
  all_two (x ∷ xs) = by_case (p x) refl (all_two xs)
    where
      further : (o : Option Slot) → p x ≡ false → option_and_then (λ one. other_from p one xs) o ≡ option_and_then (λ one. other_from p one (x ∷ xs)) o
      further None is = refl
      further (Some one) is = sym (passed one x xs (ap (λ (b : Bool). b && not (bytes_eq one.name x.name)) is))

      by_case : (b : Bool) → p x ≡ b → two_from p None xs ≡ option_and_then (λ one. other_from p one xs) (find p xs)
          → (if b then other_from p x xs else two_from p None xs) ≡ option_and_then (λ one. other_from p one (x ∷ xs)) (if b then Some x else find p xs)
      by_case true is behind = sym (passed x x xs (own_name x))
      by_case false is behind = behind ∙ further (find p xs) is

  -- ---- no two

  -- none of these of another name, if it is one itself
  abbrev apart_by : Bool → Text → List Slot → Bool
  apart_by b name ys = list_all (λ other. bytes_eq name other.name || not (b && p other)) ys

  abbrev apart : Slot → List Slot → Bool
  apart one ys = apart_by (p one) one.name ys

  no_one : (name : Text) (ys : List Slot) → apart_by false name ys ≡ true
  no_one name [] = refl
  no_one name (y ∷ ys) = by_case (bytes_eq name y.name) ∙ no_one name ys
    where
      by_case : (b : Bool) → ((b || true) && apart_by false name ys) ≡ apart_by false name ys
      by_case true = refl
      by_case false = refl

  no_other : (name : Text) (ys : List Slot) → apart_by true name ys ≡ is_none (find (λ other. p other && not (bytes_eq name other.name)) ys)
  no_other name [] = refl
  no_other name (y ∷ ys) = by_case (bytes_eq name y.name) (p y) (no_other name ys)
    where
      by_case : (e q : Bool) → apart_by true name ys ≡ is_none (find (λ other. p other && not (bytes_eq name other.name)) ys)
          → ((e || not (true && q)) && apart_by true name ys)
          ≡ is_none (if q && not e then Some y else find (λ other. p other && not (bytes_eq name other.name)) ys)
      by_case true true behind = behind
      by_case true false behind = behind
      by_case false true behind = refl
      by_case false false behind = behind

  module _ (xs : List Slot) where
    abbrev all_apart : List Slot → Bool
    all_apart ys = list_all (λ one. apart one xs) ys

    outside : (one : Slot) → p one ≡ false → apart one xs ≡ true
    outside one is = ap (λ (b : Bool). apart_by b one.name xs) is ∙ no_one one.name xs

    none_in : (ys : List Slot) → find p ys ≡ None → all_apart ys ≡ true
    none_in [] none = refl
    none_in (y ∷ ys) none = by_case (p y) refl none (none_in ys)
      where
        by_case : (b : Bool) → p y ≡ b → (if b then Some y else find p ys) ≡ None → (find p ys ≡ None → all_apart ys ≡ true)
            → (apart y xs && all_apart ys) ≡ true
        by_case true is none behind = cc
        by_case false is none behind = and_from (apart y xs) (all_apart ys) (outside y is) (behind none)

    of_name : (one y : Slot) → p one ≡ true → p y ≡ true → bytes_eq one.name y.name ≡ true → apart one xs ≡ true → apart y xs ≡ true
    of_name one y is also same all =
        ap (λ (b : Bool). apart_by b y.name xs) (also ∙ sym is)
        ∙ ap (λ (name : Text). apart_by (p one) name xs) (sym ((bytes_eq-Decides one.name y.name).0 same))
        ∙ all

    or_none : (b : Bool) → (b || false) ≡ true → b ≡ true
    or_none true is = refl
    or_none false is = is

    all_of_one : (one : Slot) → p one ≡ true → apart one xs ≡ true → (ys : List Slot) → apart one ys ≡ true → all_apart ys ≡ true
    all_of_one one is all [] each = refl
    all_of_one one is all (y ∷ ys) each =
        let parts = and_parts (bytes_eq one.name y.name || not (p one && p y)) (apart one ys) each in
        and_from (apart y xs) (all_apart ys) (by_case (p y) refl parts.0) (all_of_one one is all ys parts.1)
      where
        by_name : p y ≡ true → (bytes_eq one.name y.name || false) ≡ true → apart y xs ≡ true
        by_name also same = of_name one y is also (or_none (bytes_eq one.name y.name) same) all

        by_case : (b : Bool) → p y ≡ b → (bytes_eq one.name y.name || not (p one && p y)) ≡ true → apart y xs ≡ true
        by_case true also here = by_name also (ap₂ (λ (a b : Bool). bytes_eq one.name y.name || not (a && b)) (sym is) (sym also) ∙ here)
        by_case false others here = outside y others

    one_of_all : (one : Slot) (ys : List Slot) → find p ys ≡ Some one → all_apart ys ≡ true → apart one xs ≡ true
    one_of_all one [] found all = cc
    one_of_all one (y ∷ ys) found all = by_case (p y) found (and_parts (apart y xs) (all_apart ys) all) (one_of_all one ys)
      where
        by_case : (b : Bool) → (if b then Some y else find p ys) ≡ Some one → (apart y xs ≡ true) × (all_apart ys ≡ true)
            → (find p ys ≡ Some one → all_apart ys ≡ true → apart one xs ≡ true) → apart one xs ≡ true
        by_case true found parts behind =
            let same : y ≡ one = cc in
            sym (ap (λ (z : Slot). apart z xs) same) ∙ parts.0
        by_case false found parts behind = behind found parts.1

  is_found : (one : Slot) (ys : List Slot) → find p ys ≡ Some one → p one ≡ true
  is_found one [] found = cc
  is_found one (y ∷ ys) found = by_case (p y) refl found (is_found one ys)
    where
      by_case : (b : Bool) → p y ≡ b → (if b then Some y else find p ys) ≡ Some one → (find p ys ≡ Some one → p one ≡ true) → p one ≡ true
      by_case true is found behind =
          let same : y ≡ one = cc in
          sym (ap p same) ∙ is
      by_case false is found behind = behind found

  same : (a b : Bool) → (a ≡ true → b ≡ true) → (b ≡ true → a ≡ true) → a ≡ b
  same true b f g = sym (f refl)
  same false true f g = g refl
  same false false f g = refl

  -- there are no such two exactly where each is apart from each
  pub no_two : (xs : List Slot)
      → is_none (option_and_then (λ one. other_from p one xs) (find p xs))
      ≡ list_all (λ one. list_all (λ other. bytes_eq one.name other.name || not (p one && p other)) xs) xs
  no_two xs = by_case (find p xs) refl
    where
      is_none_mapped : (one : Slot) (o : Option Slot) → is_none {T = Slot × Slot} (option_map (λ (other : Slot). (one, other)) o) ≡ is_none o
      is_none_mapped one None = refl
      is_none_mapped one (Some other) = refl

      by_one : (one : Slot) → find p xs ≡ Some one → apart one xs ≡ all_apart xs xs
      by_one one found =
          same (apart one xs) (all_apart xs xs)
          (λ all. all_of_one xs one (is_found one xs found) all xs all)
          (one_of_all xs one xs found)

      by_case : (o : Option Slot) → find p xs ≡ o → is_none (option_and_then (λ one. other_from p one xs) o) ≡ all_apart xs xs
      by_case None found = sym (none_in xs xs found)
      by_case (Some one) found =
          is_none_mapped one (find (λ other. p other && not (bytes_eq one.name other.name)) xs)
          ∙ sym (no_other one.name xs)
          ∙ ap (λ (b : Bool). apart_by b one.name xs) (sym (is_found one xs found))
          ∙ by_one one found
