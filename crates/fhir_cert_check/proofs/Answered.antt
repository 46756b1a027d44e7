-- Tests over lists.
use Rattle.std.proofs.Common.{◌≡◌, ℕ, zero, suc, Bool, true, false, List, [], ◌∷◌, ◌++◌, map, get_or, Option, Some, None, refl, inl, inr, arith, IsTrue, cond, nat_eq, length}
use Rattle.std.specs.List.{list_all, list_any, find, flat_map, slice_get, AllByRecursion}
use Rattle.std.specs.Option.{option_map_or}
use Rattle.std.proofs.lemmas.Bool.{and_parts, and_from, or_cases, eqb-true, or_left, or_right, false≢true}
use Rattle.std.proofs.lemmas.Option.{none-some, same_Some}
use Rattle.fhir_cert_check.specs.Lists.{each_answers}
use Rattle.fhir_cert_check.specs.Rules.{is_answered}

-- one element that passes r, where all pass p
pub any_with_all : {A : Type 0} (r p : A → Bool) (Q : Type 0) → ((x : A) → IsTrue (r x) → IsTrue (p x) → Q) → (xs : List A) → IsTrue (list_any r xs)
    → IsTrue (list_all p xs) → Q
any_with_all r p Q f [] some each = absurd (false≢true some)
any_with_all r p Q f (x ∷ xs) some each =
    elim (or_cases (r x) (list_any r xs) some) [
      | inl here ↦ f x here (and_parts (p x) (list_all p xs) each).0
      | inr there ↦ any_with_all r p Q f xs there (and_parts (p x) (list_all p xs) each).1
    ]

pub any_step : {A : Type 0} (p q : A → Bool) → ((x : A) → IsTrue (p x) → IsTrue (q x)) → (xs : List A) → IsTrue (list_any p xs) → IsTrue (list_any q xs)
any_step p q f [] some = some
any_step p q f (x ∷ xs) some =
    elim (or_cases (p x) (list_any p xs) some) [
      | inl here ↦ or_left (q x) (list_any q xs) (f x here)
      | inr there ↦ or_right (q x) (list_any q xs) (any_step p q f xs there)
    ]

-- one that stands at a position
pub any_placed : {A : Type 0} (p : A → Bool) (xs : List A) (i : ℕ) → IsTrue (option_map_or p (slice_get xs i) false) → IsTrue (list_any p xs)
any_placed p [] i here = absurd (false≢true here)
any_placed p (x ∷ xs) zero here = or_left (p x) (list_any p xs) here
any_placed p (x ∷ xs) (suc i) here = or_right (p x) (list_any p xs) (any_placed p xs i here)

-- what one of the first list passes gives what one of the second does
pub answers_any : {A B : Type 0} (r : A → B → Bool) (p : A → Bool) (q : B → Bool) → ((a : A) (b : B) → IsTrue (r a b) → IsTrue (p a) → IsTrue (q b))
    → (xs : List A) (ys : List B) → IsTrue (each_answers r xs ys) → IsTrue (list_any p xs) → IsTrue (list_any q ys)
answers_any r p q f xs ys answers some =
    any_with_all p (λ x. list_any (λ y. r x y) ys) (IsTrue (list_any q ys))
    (λ x here each. any_step (λ y. r x y) q (λ y answered. f x y answered here) ys each) xs some answers

pub all_map : {A : Type 0} (p q : A → Bool) → ((x : A) → IsTrue (p x) → IsTrue (q x)) → (xs : List A) → IsTrue (list_all p xs) → IsTrue (list_all q xs)
all_map p q f [] each = refl
all_map p q f (x ∷ xs) each =
    let parts = and_parts (p x) (list_all p xs) each in
    and_from (q x) (list_all q xs) (f x parts.0) (all_map p q f xs parts.1)

-- what holds of each holds at each position, where it holds of what stands behind the end
pub each_at : {A : Type 0} (P : A → Type 0) (d : A) → P d → (xs : List A) → AllByRecursion P xs → (i : ℕ) → P (get_or xs i d)
each_at P d last [] each i = last
each_at P d last (x ∷ xs) each zero = each.0
each_at P d last (x ∷ xs) each (suc i) = each_at P d last xs each.1 i

-- from what one gives to what the other gives
pub all_moved : {A B : Type 0} (f g : A → B) (p : B → Bool) → ((x : A) → IsTrue (p (f x)) → IsTrue (p (g x))) → (xs : List A)
    → IsTrue (list_all p (map f xs)) → IsTrue (list_all p (map g xs))
all_moved f g p step [] each = refl
all_moved f g p step (x ∷ xs) each =
    let parts = and_parts (p (f x)) (list_all p (map f xs)) each in
    and_from (p (g x)) (list_all p (map g xs)) (step x parts.0) (all_moved f g p step xs parts.1)

pub all_append : {A : Type 0} (p : A → Bool) (xs ys : List A) → IsTrue (list_all p (xs ++ ys)) → IsTrue (list_all p xs) × IsTrue (list_all p ys)
all_append p [] ys each = (refl, each)
all_append p (x ∷ xs) ys each =
    let parts = and_parts (p x) (list_all p (xs ++ ys)) each in
    let rest = all_append p xs ys parts.1 in
    (and_from (p x) (list_all p xs) parts.0 rest.0, rest.1)

pub all_joined : {A : Type 0} (p : A → Bool) (xs ys : List A) → IsTrue (list_all p xs) → IsTrue (list_all p ys) → IsTrue (list_all p (xs ++ ys))
all_joined p [] ys each more = more
all_joined p (x ∷ xs) ys each more =
    let parts = and_parts (p x) (list_all p xs) each in
    and_from (p x) (list_all p (xs ++ ys)) parts.0 (all_joined p xs ys parts.1 more)

-- two parts, each in its place
pub all_both : {A : Type 0} (p : A → Bool) (xs ys zs ws : List A) → (IsTrue (list_all p xs) → IsTrue (list_all p zs))
    → (IsTrue (list_all p ys) → IsTrue (list_all p ws)) → IsTrue (list_all p (xs ++ ys)) → IsTrue (list_all p (zs ++ ws))
all_both p xs ys zs ws first second each =
    let parts = all_append p xs ys each in
    all_joined p zs ws (first parts.0) (second parts.1)

-- what holds of all that each gives
pub all_given : {A B : Type 0} (p : B → Bool) (f : A → List B) (xs : List A) → IsTrue (list_all p (flat_map f xs))
    → IsTrue (list_all (λ x. list_all p (f x)) xs)
all_given p f [] each = refl
all_given p f (x ∷ xs) each =
    let parts = all_append p (f x) (flat_map f xs) each in
    and_from (list_all p (f x)) (list_all (λ x. list_all p (f x)) xs) parts.0 (all_given p f xs parts.1)

pub all_taken : {A B : Type 0} (p : B → Bool) (f : A → List B) (xs : List A) → IsTrue (list_all (λ x. list_all p (f x)) xs)
    → IsTrue (list_all p (flat_map f xs))
all_taken p f [] each = refl
all_taken p f (x ∷ xs) each =
    let parts = and_parts (list_all p (f x)) (list_all (λ x. list_all p (f x)) xs) each in
    all_joined p (f x) (flat_map f xs) parts.0 (all_taken p f xs parts.1)

-- the one that is found passes the test, and what all pass
pub found_passes : {A : Type 0} (p q : A → Bool) (xs : List A) (a : A) → find p xs ≡ Some a → IsTrue (list_all q xs) → IsTrue (p a) × IsTrue (q a)
found_passes p q [] a e each = absurd (none-some a e)
found_passes p q (x ∷ xs) a e each =
    let parts = and_parts (q x) (list_all q xs) each in
    go (p x) refl e parts.0 (λ h. found_passes p q xs a h parts.1)
  where
    go : (b : Bool) → p x ≡ b → cond b (Some x) (find p xs) ≡ Some a → IsTrue (q x) → (find p xs ≡ Some a → IsTrue (p a) × IsTrue (q a))
        → IsTrue (p a) × IsTrue (q a)
    go true is e here there = rw (← same_Some x a e) (is, here)
    go false is e here there = there e

pub none_of_length : {A : Type 0} (xs : List A) → IsTrue (nat_eq (length xs) 0) → xs ≡ []
none_of_length [] h = refl
none_of_length (x ∷ xs) h = absurd (omega (arith, eqb-true (length (x ∷ xs)) 0 h))

-- what is asked for and answered holds, where what answers it holds
pub answered : {A B : Type 0} (answers : A → B → Bool) (P : A → Bool) (Q : B → Bool) → ((a : A) (b : B) → IsTrue (answers a b) → IsTrue (P a) → IsTrue (Q b))
    → (o : Option A) (p : Option B) → IsTrue (is_answered answers o p) → IsTrue (option_map_or P o true) → IsTrue (option_map_or Q p true)
answered answers P Q step o None is holds = refl
answered answers P Q step None (Some b) is holds = absurd (false≢true is)
answered answers P Q step (Some a) (Some b) is holds = step a b is holds

-- the same where two hold of what answers it
pub answered_by_both : {A B : Type 0} (answers : A → B → Bool) (P R : A → Bool) (Q : B → Bool)
    → ((a : A) (b : B) → IsTrue (answers a b) → IsTrue (P a) → IsTrue (R a) → IsTrue (Q b)) → (o : Option A) (p : Option B) → IsTrue (is_answered answers o p)
    → IsTrue (option_map_or P o true) → IsTrue (option_map_or R o true) → IsTrue (option_map_or Q p true)
answered_by_both answers P R Q step o None is holds more = refl
answered_by_both answers P R Q step None (Some b) is holds more = absurd (false≢true is)
answered_by_both answers P R Q step (Some a) (Some b) is holds more = step a b is holds more
