-- How many there are in parts of a list that share nothing.
use Rattle.std.proofs.Common.{◌≡◌, ◌≤◌, ◌+◌, ℕ, Bool, true, false, not, cond, List, [], ◌∷◌, map, length, refl, sym, ap, ◌∙◌, ◌&&◌, ◌||◌, IsTrue, arith}
use Rattle.std.specs.List.{list_all, filter, sum_by, count_by, AllByRecursion}
use Rattle.std.specs.Str.{bytes_eq}
use Rattle.std.proofs.lemmas.Bool.{and_parts, not-true, false≢true, true≢false}
use Rattle.std.proofs.lemmas.List.Sums.{sum_by-cons}
use Rattle.fhir_json.specs.Sound.{is_among, differ}
use Rattle.fhir_nodes.specs.Slots.{Slot}
use Rattle.fhir_contradictions.specs.Contradictions.{names_differ}
use Rattle.fhir_contradictions.proofs.Passing.{all_weaker}

-- ---- sums

-- the sum of nothing
pub sum_none : {A : Type 0} (xs : List A) → sum_by (λ (x : A). 0) xs ≡ 0
sum_none [] = refl
sum_none {A} (x ∷ xs) = omega (arith, sum_by-cons (λ (x : A). 0) x xs, sum_none xs)

-- the sum of what is less is less
pub sum_below : {A : Type 0} (f g : A → ℕ) (xs : List A) → AllByRecursion (λ x. f x ≤ g x) xs → sum_by f xs ≤ sum_by g xs
sum_below f g [] each = omega arith
sum_below f g (x ∷ xs) each = omega (arith, sum_by-cons f x xs, sum_by-cons g x xs, each.0, sum_below f g xs each.1)

-- where each is the sum of two
pub sum_both : {A : Type 0} (f g h : A → ℕ) → ((x : A) → f x ≡ g x + h x) → (xs : List A) → sum_by f xs ≡ sum_by g xs + sum_by h xs
sum_both f g h each [] = omega arith
sum_both f g h each (x ∷ xs) =
    omega (arith, sum_by-cons f x xs, sum_by-cons g x xs, sum_by-cons h x xs, each x, sum_both f g h each xs)

-- ---- parts that share nothing

-- one element more, in a part of it
part_more : {B : Type 0} (p : B → Bool) (y : B) (ys : List B) → length (filter p (y ∷ ys)) ≡ cond (p y) 1 0 + length (filter p ys)
part_more {B} p y ys = by_case (p y)
  where
    by_case : (b : Bool) → length (cond b (y ∷ filter p ys) (filter p ys)) ≡ cond b 1 0 + length (filter p ys)
    by_case true = omega arith
    by_case false = omega arith

-- where each element is in one part at most, the parts together have no more than all
pub parts_within : {A B : Type 0} (p : A → B → Bool) (xs : List A) (ys : List B)
    → AllByRecursion (λ (y : B). count_by (λ (x : A). p x y) xs ≤ 1) ys
    → sum_by (λ (x : A). length (filter (p x) ys)) xs ≤ length ys
parts_within {A} {B} p xs [] each = omega (arith, sum_none xs)
parts_within {A} {B} p xs (y ∷ ys) each =
    let more = sum_both (λ (x : A). length (filter (p x) (y ∷ ys))) (λ (x : A). cond (p x y) 1 0) (λ (x : A). length (filter (p x) ys))
    (λ x. part_more (p x) y ys) xs in
    let rest = parts_within p xs ys each.1 in
    let here = each.0 in
    omega arith

-- ---- of which some have one name

abbrev pub are_apart_by : (Slot → Bool) → Slot → Slot → Bool
are_apart_by p one other = bytes_eq one.name other.name || not (p one && p other)

-- none of those with other names
none_else : (p : Slot → Bool) (one : Slot) (xs : List Slot) → p one ≡ true → is_among one.name (map (λ slot. slot.name) xs) ≡ false
    → IsTrue (list_all (are_apart_by p one) xs) → count_by p xs ≡ 0
none_else p one [] is other apart = refl
none_else p one (x ∷ xs) is other apart =
    by_case (bytes_eq one.name x.name) (p x) refl refl
    (λ more. none_else p one xs is more (and_parts (are_apart_by p one x) (list_all (are_apart_by p one) xs) apart).1)
  where
    by_case : (b c : Bool) → bytes_eq one.name x.name ≡ b → p x ≡ c
        → (is_among one.name (map (λ slot. slot.name) xs) ≡ false → count_by p xs ≡ 0) → count_by p (x ∷ xs) ≡ 0
    by_case true c named passes rest = absurd (true≢false (sym (ap (λ b. b || is_among one.name (map (λ slot. slot.name) xs)) named) ∙ other))
    by_case false true named passes rest =
        absurd (false≢true (sym (ap (λ b. b || not (p one && p x)) named ∙ (ap (λ b. not (b && p x)) is ∙ ap (λ b. not b) passes))
        ∙ (and_parts (are_apart_by p one x) (list_all (are_apart_by p one) xs) apart).0))
    by_case false false named passes rest =
        let behind = rest (sym (ap (λ b. b || is_among one.name (map (λ slot. slot.name) xs)) named) ∙ other) in
        let none : cond {A = ℕ} (p x) 1 0 ≡ 0 = ap (λ (b : Bool). cond {A = ℕ} b 1 0) passes in
        omega (arith, sum_by-cons (λ (x : Slot). cond {A = ℕ} (p x) 1 0) x xs)

-- one at most, where no two have one name
pub one_at_most : (p : Slot → Bool) (xs : List Slot) → IsTrue (names_differ xs)
    → IsTrue (list_all (λ one. list_all (are_apart_by p one) xs) xs) → count_by p xs ≤ 1
one_at_most p [] named apart = omega arith
one_at_most p (x ∷ xs) named apart =
    let names = and_parts (not (is_among x.name (map (λ slot. slot.name) xs))) (differ (map (λ slot. slot.name) xs)) named in
    let parts = and_parts (list_all (are_apart_by p x) (x ∷ xs)) (list_all (λ one. list_all (are_apart_by p one) (x ∷ xs)) xs) apart in
    by_case (p x) refl (not-true (is_among x.name (map (λ slot. slot.name) xs)) names.0)
    (and_parts (are_apart_by p x x) (list_all (are_apart_by p x) xs) parts.0).1
    (one_at_most p xs names.1
    (all_weaker (λ one. list_all (are_apart_by p one) (x ∷ xs)) (λ one. list_all (are_apart_by p one) xs)
    (λ one h. (and_parts (are_apart_by p one x) (list_all (are_apart_by p one) xs) h).1) xs parts.1))
  where
    by_case : (b : Bool) → p x ≡ b → is_among x.name (map (λ slot. slot.name) xs) ≡ false → IsTrue (list_all (are_apart_by p x) xs)
        → count_by p xs ≤ 1 → count_by p (x ∷ xs) ≤ 1
    by_case true is other mine rest =
        let behind = none_else p x xs is other mine in
        let here : cond {A = ℕ} (p x) 1 0 ≡ 1 = ap (λ (b : Bool). cond {A = ℕ} b 1 0) is in
        omega (arith, sum_by-cons (λ (x : Slot). cond {A = ℕ} (p x) 1 0) x xs)
    by_case false is other mine rest =
        let here : cond {A = ℕ} (p x) 1 0 ≡ 0 = ap (λ (b : Bool). cond {A = ℕ} b 1 0) is in
        omega (arith, sum_by-cons (λ (x : Slot). cond {A = ℕ} (p x) 1 0) x xs)
