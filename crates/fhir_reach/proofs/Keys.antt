-- The test of equal keys, and lists in which each key stands once.
use Rattle.std.proofs.Common.{◌≡◌, ℕ, zero, suc, ◌≤◌, Bool, true, false, cond, List, [], ◌∷◌, ◌++◌, length, Some, refl, sym, ap, ◌∙◌, IsTrue, ◌&&◌, ◌||◌, inl, inr, ◌⊎◌, subst, arith, append_assoc, length-append}
use Rattle.std.specs.List.{list_any, list_all, slice_get, AllByRecursion, IsDistinct}
use Rattle.std.specs.Cmp.{IsEquivalence}
use Rattle.std.proofs.lemmas.Bool.{or_cases, or_left, or_right, false≢true}
use Rattle.std.proofs.lemmas.List.{append-nil}
use Rattle.std.proofs.lemmas.List.Folds.{list_any-append}
use Rattle.std.proofs.lemmas.Option.{none-some, same_Some}
use Rattle.std.proofs.lemmas.Slice.Eq.{bytes_eq-Decides}
use Rattle.fhir_reach.specs.declared.key.Key.{Key}
use Rattle.fhir_reach.specs.Keys.{KeyValue, of_url, of_code, key_eq, key_seen, keys_seen, has_key, with_key, with_keys}

-- ---- equal keys

pub key_eq-true : (p q : KeyValue) → IsTrue (key_eq p q) → p ≡ q
key_eq-true (of_url a) (of_url b) h = ap of_url ((bytes_eq-Decides a b).0 h)
key_eq-true (of_url a) (of_code b) h = absurd (false≢true h)
key_eq-true (of_code a) (of_url b) h = absurd (false≢true h)
key_eq-true (of_code a) (of_code b) h = ap of_code ((bytes_eq-Decides a b).0 h)

pub key_eq-refl : (p : KeyValue) → IsTrue (key_eq p p)
key_eq-refl (of_url a) = (bytes_eq-Decides a a).1 refl
key_eq-refl (of_code a) = (bytes_eq-Decides a a).1 refl

-- two tests that follow from one another are one
pub same_tests : (x y : Bool) → (IsTrue x → IsTrue y) → (IsTrue y → IsTrue x) → x ≡ y
same_tests true y f g = sym (f refl)
same_tests false true f g = g refl
same_tests false false f g = refl

pub key_eq-turn : (p q : KeyValue) → key_eq p q ≡ key_eq q p
key_eq-turn p q =
    same_tests (key_eq p q) (key_eq q p)
    (λ h. subst (λ r. IsTrue (key_eq r p)) (key_eq-true p q h) (key_eq-refl p))
    (λ h. subst (λ r. IsTrue (key_eq r q)) (key_eq-true q p h) (key_eq-refl q))

pub key_laws : IsEquivalence key_eq
key_laws = record {
  refl = key_eq-refl;
  symm = key_eq-turn;
  congr = λ x y z h. ap (λ p. key_eq p z) (key_eq-true x y h);
}

-- ---- sets that hold keys of a list

pub held_by : (holds : KeyValue → Bool) (keys : List KeyValue) → IsTrue (list_any holds keys) → (k : KeyValue) × IsTrue (has_key keys k) × IsTrue (holds k)
held_by holds [] h = absurd (false≢true h)
held_by holds (x ∷ keys) h =
    elim (or_cases (holds x) (list_any holds keys) h) [
      | inl here ↦ (x, or_left (key_eq x x) (has_key keys x) (key_eq-refl x), here)
      | inr there ↦ let on = held_by holds keys there in (on.0, or_right (key_eq on.0 x) (has_key keys on.0) on.1, on.2)
    ]

pub holds_one : (holds : KeyValue → Bool) (keys : List KeyValue) (k : KeyValue) → IsTrue (has_key keys k) → IsTrue (holds k) → IsTrue (list_any holds keys)
holds_one holds [] k h good = absurd (false≢true h)
holds_one holds (x ∷ keys) k h good =
    elim (or_cases (key_eq k x) (has_key keys k) h) [
      | inl here ↦ or_left (holds x) (list_any holds keys) (subst (λ j. IsTrue (holds j)) (key_eq-true k x here) good)
      | inr there ↦ or_right (holds x) (list_any holds keys) (holds_one holds keys k there good)
    ]

-- ---- one more key

kept_by_key : (ks : List KeyValue) (k q : KeyValue) → IsTrue (has_key ks q) → IsTrue (has_key (with_key ks k) q)
kept_by_key ks k q h = by (has_key ks k)
  where
    by : (b : Bool) → IsTrue (has_key (cond b ks (ks ++ k ∷ [])) q)
    by true = h
    by false = rw (list_any-append (key_eq q) ks (k ∷ [])) (or_left (has_key ks q) _ h)

added_by_key : (ks : List KeyValue) (k : KeyValue) → IsTrue (has_key (with_key ks k) k)
added_by_key ks k = by (has_key ks k) refl
  where
    by : (b : Bool) → has_key ks k ≡ b → IsTrue (has_key (cond b ks (ks ++ k ∷ [])) k)
    by true e = e
    by false e = rw (list_any-append (key_eq k) ks (k ∷ [])) (or_right (has_key ks k) _ (or_left (key_eq k k) false (key_eq-refl k)))

only_by_key : (ks : List KeyValue) (k q : KeyValue) → IsTrue (has_key (with_key ks k) q) → IsTrue (has_key ks q) ⊎ (q ≡ k)
only_by_key ks k q = by (has_key ks k)
  where
    by : (b : Bool) → IsTrue (has_key (cond b ks (ks ++ k ∷ [])) q) → IsTrue (has_key ks q) ⊎ (q ≡ k)
    by true h = inl h
    by false h =
        elim (or_cases (has_key ks q) (key_eq q k || false) (rw (list_any-append (key_eq q) ks (k ∷ [])) at h)) [
          | inl there ↦ inl there
          | inr here ↦ elim (or_cases (key_eq q k) false here) [ inl same ↦ inr (key_eq-true q k same) | inr never ↦ absurd (false≢true never) ]
        ]

more_by_key : (ks : List KeyValue) (k : KeyValue) → (more : List KeyValue) × (with_key ks k ≡ ks ++ more)
more_by_key ks k = by (has_key ks k)
  where
    by : (b : Bool) → (more : List KeyValue) × (cond b ks (ks ++ k ∷ []) ≡ ks ++ more)
    by true = ([], sym (append-nil ks))
    by false = (k ∷ [], refl)

-- ---- more keys

pub kept_by_all : (xs ks : List KeyValue) (q : KeyValue) → IsTrue (has_key ks q) → IsTrue (has_key (with_keys ks xs) q)
kept_by_all [] ks q h = h
kept_by_all (x ∷ xs) ks q h = kept_by_all xs (with_key ks x) q (kept_by_key ks x q h)

pub added_by_all : (xs ks : List KeyValue) (q : KeyValue) → IsTrue (has_key xs q) → IsTrue (has_key (with_keys ks xs) q)
added_by_all [] ks q h = absurd (false≢true h)
added_by_all (x ∷ xs) ks q h =
    elim (or_cases (key_eq q x) (has_key xs q) h) [
      | inl here ↦ kept_by_all xs (with_key ks x) q (subst (λ p. IsTrue (has_key (with_key ks x) p)) (sym (key_eq-true q x here)) (added_by_key ks x))
      | inr there ↦ added_by_all xs (with_key ks x) q there
    ]

pub only_by_all : (xs ks : List KeyValue) (q : KeyValue) → IsTrue (has_key (with_keys ks xs) q) → IsTrue (has_key ks q) ⊎ IsTrue (has_key xs q)
only_by_all [] ks q h = inl h
only_by_all (x ∷ xs) ks q h =
    elim (only_by_all xs (with_key ks x) q h) [
      | inl old ↦ elim (only_by_key ks x q old) [
        | inl older ↦ inl older
        | inr same ↦ inr (or_left (key_eq q x) (has_key xs q) (subst (λ p. IsTrue (key_eq q p)) same (key_eq-refl q)))
      ]
      | inr new ↦ inr (or_right (key_eq q x) (has_key xs q) new)
    ]

pub more_by_all : (xs ks : List KeyValue) → (more : List KeyValue) × (with_keys ks xs ≡ ks ++ more)
more_by_all [] ks = ([], sym (append-nil ks))
more_by_all (x ∷ xs) ks =
    let a = more_by_key ks x in
    let b = more_by_all xs (with_key ks x) in
    (a.0 ++ b.0, b.1 ∙ ap (λ (l : List KeyValue). l ++ b.0) a.1 ∙ append_assoc ks a.0 b.0)

pub longer : (xs ks : List KeyValue) → length ks ≤ length (with_keys ks xs)
longer xs ks =
    let more = more_by_all xs ks in
    omega (arith, ap length more.1, length-append ks more.0)

-- more keys behind others are all of them
pub with_more : (xs ys ks : List KeyValue) → with_keys ks (xs ++ ys) ≡ with_keys (with_keys ks xs) ys
with_more [] ys ks = refl
with_more (x ∷ xs) ys ks = with_more xs ys (with_key ks x)

-- ---- places

pub key_there : (xs : List KeyValue) (n : ℕ) (p : KeyValue) → slice_get xs n ≡ Some p → IsTrue (has_key xs p)
key_there [] n p e = absurd (none-some p e)
key_there (x ∷ xs) zero p e = or_left (key_eq p x) (has_key xs p) (subst (λ q. IsTrue (key_eq p q)) (sym (same_Some x p e)) (key_eq-refl p))
key_there (x ∷ xs) (suc n) p e = or_right (key_eq p x) (has_key xs p) (key_there xs n p e)

pub place_there : (xs : List KeyValue) (p : KeyValue) → IsTrue (has_key xs p) → (n : ℕ) × (slice_get xs n ≡ Some p)
place_there [] p h = absurd (false≢true h)
place_there (x ∷ xs) p h =
    elim (or_cases (key_eq p x) (has_key xs p) h) [
      | inl here ↦ (zero, ap Some (sym (key_eq-true p x here)))
      | inr there ↦ let r = place_there xs p there in (suc r.0, r.1)
    ]

-- ---- each once

neither : (a b : Bool) → (a || b) ≡ false → (a ≡ false) × (b ≡ false)
neither true b e = cc
neither false b e = (refl, e)

apart : (x k : KeyValue) (ys : List KeyValue) → AllByRecursion (λ y. key_eq x y ≡ false) ys → key_eq x k ≡ false → AllByRecursion (λ y. key_eq x y ≡ false) (ys ++ k ∷ [])
apart x k [] h e = (e, tt)
apart x k (y ∷ ys) h e = (h.0, apart x k ys h.1 e)

distinct_push : (ks : List KeyValue) (k : KeyValue) → has_key ks k ≡ false → IsDistinct key_eq ks → IsDistinct key_eq (ks ++ k ∷ [])
unfolding IsDistinct
distinct_push [] k none h = (tt, tt)
distinct_push (x ∷ ks) k none h =
    let parts = neither (key_eq k x) (has_key ks k) none in
    (apart x k ks h.0 (key_eq-turn x k ∙ parts.0), distinct_push ks k parts.1 h.1)

distinct_key : (ks : List KeyValue) (k : KeyValue) → IsDistinct key_eq ks → IsDistinct key_eq (with_key ks k)
distinct_key ks k h = by (has_key ks k) refl
  where
    by : (b : Bool) → has_key ks k ≡ b → IsDistinct key_eq (cond b ks (ks ++ k ∷ []))
    by true e = h
    by false e = distinct_push ks k e h

pub distinct_all : (xs ks : List KeyValue) → IsDistinct key_eq ks → IsDistinct key_eq (with_keys ks xs)
distinct_all [] ks h = h
distinct_all (x ∷ xs) ks h = distinct_all xs (with_key ks x) (distinct_key ks x h)

pub none_twice : IsDistinct key_eq []
unfolding IsDistinct
none_twice = tt

-- ---- keys as they are seen

pub all_seen : (holds : KeyValue → Bool) (keys : List Key) → list_all (λ (key : Key). holds (key_seen key)) keys ≡ list_all holds (keys_seen keys)
all_seen holds [] = refl
all_seen holds (k ∷ keys) = ap (λ (b : Bool). holds (key_seen k) && b) (all_seen holds keys)
