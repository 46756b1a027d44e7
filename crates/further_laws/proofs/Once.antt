-- Values once each.
use Rattle.std.proofs.Common.{◌≡◌, Bool, true, false, cond, List, [], ◌∷◌, ◌++◌, length, get_or, drop, refl, sym, ap, ap₂, ◌∙◌, inl, inr, ◌⊎◌, IsTrue, arith}
use Rattle.std.specs.List.{Contains, filter}
use Rattle.std.proofs.lemmas.Bool.{or_cases, or_left, or_right, false≢true}
use Rattle.std.proofs.lemmas.List.Elements.{Contains-push_cases, Contains-append_left, Contains-append_right}
use Rattle.fhir_fp_values.specs.Values.{Plain}
use Rattle.fhir_package.proofs.Entries.{contains_cases}
use Rattle.fhir_fp_values.specs.Equality.{is_yes, alike, has}
use Rattle.fhir_fp_values.specs.Sets.{add, joined, shared}

pub joined_append : (seen xs ys : List Plain) → joined seen (xs ++ ys) ≡ joined (joined seen xs) ys
unfolding joined
joined_append seen [] ys = refl
joined_append seen (x ∷ xs) ys = joined_append (add seen x) xs ys

-- ---- each is one of the values

first_is : (x : Plain) (xs : List Plain) (v : Plain) → x ≡ v → Contains (x ∷ xs) v
first_is x xs v e = (0, omega arith, e)

pub joined_from : (xs seen : List Plain) (v : Plain) → Contains (joined seen xs) v → Contains seen v ⊎ Contains xs v
unfolding joined
joined_from [] seen v h = inl h
joined_from (x ∷ xs) seen v h =
    elim (joined_from xs (add seen x) v h) [
      | inl early ↦ added (has seen x) early
      | inr late ↦ inr (Contains-append_right (x ∷ []) xs v late)
    ]
  where
    added : (b : Bool) → Contains (cond b seen (seen ++ x ∷ [])) v → Contains seen v ⊎ Contains (x ∷ xs) v
    added true h = inl h
    added false h =
        elim (Contains-push_cases seen x v h) [
          | inl before ↦ inl before
          | inr is ↦ inr (first_is x xs v is)
        ]

-- ---- no two are equal

-- no value is equal to one that stands before it
abbrev pub AreOnce : List Plain → Type 0
AreOnce xs = (front back : List Plain) (v : Plain) → xs ≡ front ++ v ∷ back → has front v ≡ false

parted : (seen front back : List Plain) (x v : Plain) → seen ++ x ∷ [] ≡ front ++ v ∷ back
    → ((front ≡ seen) × (v ≡ x)) ⊎ ((rest : List Plain) × (seen ≡ front ++ v ∷ rest))
parted [] [] back x v e = inl (refl, sym (ap (λ (l : List Plain). get_or l 0 x) e))
parted [] (f ∷ fs) back x v e = absurd (none_behind fs (ap (λ (l : List Plain). length (drop 1 l)) e))
  where
    none_behind : (fs : List Plain) → 0 ≡ length (fs ++ v ∷ back) → ⊥
    none_behind [] e = omega (arith, e)
    none_behind (f ∷ fs) e = omega (arith, e)
parted (y ∷ ys) [] back x v e = inr (ys, ap (λ (z : Plain). z ∷ ys) (ap (λ (l : List Plain). get_or l 0 x) e))
parted (y ∷ ys) (f ∷ fs) back x v e =
    let first : y ≡ f = ap (λ (l : List Plain). get_or l 0 y) e in
    elim (parted ys fs back x v (ap (λ (l : List Plain). drop 1 l) e)) [
      | inl whole ↦ inl (ap₂ (λ (z : Plain) (zs : List Plain). z ∷ zs) (sym first) whole.0, whole.1)
      | inr part ↦ inr (part.0, ap₂ (λ (z : Plain) (zs : List Plain). z ∷ zs) first part.1)
    ]

once_added : (seen : List Plain) (x : Plain) (b : Bool) → has seen x ≡ b → AreOnce seen → AreOnce (cond b seen (seen ++ x ∷ []))
once_added seen x true is once front back v e = once front back v e
once_added seen x false is once front back v e =
    elim (parted seen front back x v e) [
      | inl last ↦ ap₂ (λ (zs : List Plain) (z : Plain). has zs z) last.0 last.1 ∙ is
      | inr before ↦ once front before.0 v before.1
    ]

pub joined_once : (xs seen : List Plain) → AreOnce seen → AreOnce (joined seen xs)
unfolding joined
joined_once [] seen once = once
joined_once (x ∷ xs) seen once = joined_once xs (add seen x) (once_added seen x (has seen x) refl once)

pub none_once : AreOnce []
none_once [] back v e = refl
none_once (f ∷ fs) back v e = absurd (omega (arith, ap (λ (l : List Plain). length l) e))

-- ---- each value is there, or one that is equal

stays : (xs seen : List Plain) (v : Plain) → Contains seen v → Contains (joined seen xs) v
unfolding joined
stays [] seen v h = h
stays (x ∷ xs) seen v h = stays xs (add seen x) v (added (has seen x))
  where
    added : (b : Bool) → Contains (cond b seen (seen ++ x ∷ [])) v
    added true = h
    added false = Contains-append_left seen (x ∷ []) v h

has_more : (seen more : List Plain) (v : Plain) → IsTrue (has seen v) → IsTrue (has (seen ++ more) v)
has_more [] more v h = absurd (false≢true h)
has_more (y ∷ ys) more v h =
    elim (or_cases (is_yes (alike y v)) (has ys v) h) [
      | inl here ↦ or_left (is_yes (alike y v)) (has (ys ++ more) v) here
      | inr there ↦ or_right (is_yes (alike y v)) (has (ys ++ more) v) (has_more ys more v there)
    ]

has_stays : (xs seen : List Plain) (v : Plain) → IsTrue (has seen v) → IsTrue (has (joined seen xs) v)
unfolding joined
has_stays [] seen v h = h
has_stays (x ∷ xs) seen v h = has_stays xs (add seen x) v (added (has seen x))
  where
    added : (b : Bool) → IsTrue (has (cond b seen (seen ++ x ∷ [])) v)
    added true = h
    added false = has_more seen (x ∷ []) v h

pub joined_each : (xs seen : List Plain) (v : Plain) → Contains xs v → Contains (joined seen xs) v ⊎ IsTrue (has (joined seen xs) v)
unfolding joined
joined_each [] seen v h = absurd (omega (arith, h.1))
joined_each (x ∷ xs) seen v h =
    elim (contains_cases x xs v h) [
      | inl is ↦ first (has seen x) refl is
      | inr later ↦ joined_each xs (add seen x) v later
    ]
  where
    first : (b : Bool) → has seen x ≡ b → x ≡ v → Contains (joined (cond b seen (seen ++ x ∷ [])) xs) v ⊎ IsTrue (has (joined (cond b seen (seen ++ x ∷ [])) xs) v)
    first true seen_it is = inr (has_stays xs seen v (ap (has seen) (sym is) ∙ seen_it))
    first false new is = inl (stays xs (seen ++ x ∷ []) v (Contains-append_right seen (x ∷ []) v (first_is x [] v is)))

-- ---- those of one that are in the other

pub shared_is : (ws xs seen : List Plain) → shared ws seen xs ≡ joined seen (filter (has ws) xs)
unfolding joined shared
shared_is ws [] seen = refl
shared_is ws (x ∷ xs) seen = by (has ws x) (shared_is ws xs (add seen x)) (shared_is ws xs seen)
  where
    by : (b : Bool) → shared ws (add seen x) xs ≡ joined (add seen x) (filter (has ws) xs) → shared ws seen xs ≡ joined seen (filter (has ws) xs)
        → shared ws (cond b (add seen x) seen) xs ≡ joined seen (cond b (x ∷ filter (has ws) xs) (filter (has ws) xs))
    by true with_it without = with_it
    by false with_it without = without
