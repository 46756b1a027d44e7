-- Properties in the order of their forms.
use Rattle.std.proofs.Common.{◌≡◌, ℕ, suc, ◌<◌, ◌≤◌, Bool, true, false, not, ◌&&◌, List, [], ◌∷◌, length, get_or, drop, take, nat_eq, refl, sym, ap, ◌∙◌, subst, arith}
use Rattle.std.proofs.lemmas.Bool.Decides.{nat_tests}
use Rattle.std.specs.List.{filter}
use Rattle.std.specs.List.Sorted.{IsNonDecreasingBy, IsStableByKey}
use Rattle.std.specs.Ordering.{is_lt, nat_cmp}
use Rattle.fhir_instance.specs.declared.spelled.Spelled.{Spelled}
use Rattle.fhir_instance.specs.Spelled.{of_form, count_front}

tied : (k m : ℕ) → (not (is_lt (nat_cmp k m)) && not (is_lt (nat_cmp m k))) ≡ nat_eq k m
tied k m = grind (arith, nat_tests)

filter_same : {X : Type 0} (p q : X → Bool) → ((x : X) → p x ≡ q x) → (xs : List X) → filter p xs ≡ filter q xs
filter_same p q e [] = refl
filter_same p q e (x ∷ xs) = go (q x) refl (filter_same p q e xs)
  where
    go : (b : Bool) → q x ≡ b → filter p xs ≡ filter q xs → filter p (x ∷ xs) ≡ filter q (x ∷ xs)
    go true is ih = rw (e x, is) (ap (λ ys. x ∷ ys) ih)
    go false is ih = rw (e x, is) ih

pub stable_forms : (xs ys : List Spelled) → IsStableByKey (λ (e : Spelled). e.form) nat_cmp xs ys → (k : ℕ) → of_form k ys ≡ of_form k xs
stable_forms xs ys h k =
    let x : Spelled = record { form = k; is_companion = false; at = 0 } in
    let by : Spelled → Bool = λ e. not (is_lt (nat_cmp k e.form)) && not (is_lt (nat_cmp e.form k)) in
    let same : (e : Spelled) → by e ≡ nat_eq k e.form = λ e. tied k e.form in
    sym (filter_same by (λ e. nat_eq k e.form) same ys) ∙ h x ∙ filter_same by (λ e. nat_eq k e.form) same xs

-- ---- ascending, property by property

abbrev pub Ascends : ℕ → List Spelled → Type 0
Ascends k [] = Unit {0}
Ascends k (e ∷ es) = (k ≤ e.form) × Ascends e.form es

ascends_tail : (e : Spelled) (es : List Spelled) → IsNonDecreasingBy (λ (e : Spelled). e.form) (e ∷ es) → IsNonDecreasingBy (λ (e : Spelled). e.form) es
ascends_tail e es h = λ i j d below within. h (suc i) (suc j) d (omega arith) (omega arith)

ascends_from : (k : ℕ) (es : List Spelled) → ((d : Spelled) → 0 < length es → k ≤ (get_or es 0 d).form) → IsNonDecreasingBy (λ (e : Spelled). e.form) es
    → Ascends k es
ascends_from k [] first h = tt
ascends_from k (e ∷ es) first h = (first e (omega arith), ascends_from e.form es (λ d some. h 0 1 d (omega arith) (omega arith)) (ascends_tail e es h))

pub ascends_all : (es : List Spelled) → IsNonDecreasingBy (λ (e : Spelled). e.form) es → Ascends 0 es
ascends_all es h = ascends_from 0 es (λ d some. omega arith) h

pub ascends_lower : (k m : ℕ) (es : List Spelled) → k ≤ m → Ascends m es → Ascends k es
ascends_lower k m [] le h = tt
ascends_lower k m (e ∷ es) le h = (omega arith, h.1)

same_number : (k m : ℕ) → nat_eq k m ≡ true → k ≡ m
same_number k m e = grind (arith, nat_tests)

other_number : (k m : ℕ) → k < m → nat_eq k m ≡ false
other_number k m h = grind (arith, nat_tests)

above : (k m : ℕ) → k ≤ m → nat_eq k m ≡ false → suc k ≤ m
above k m h e = grind (arith, nat_tests)

-- none is of a form below them
pub none_below : (k m : ℕ) (es : List Spelled) → k < m → Ascends m es → of_form k es ≡ []
none_below k m [] below h = refl
none_below k m (e ∷ es) below h = rw (other_number k e.form (omega arith)) (none_below k e.form es (omega arith) h.1)

-- those of the first form stand at the front
pub front_is : (k : ℕ) (es : List Spelled) → Ascends k es → of_form k es ≡ take (count_front k es) es
front_is k [] h = refl
front_is k (e ∷ es) h = go (nat_eq k e.form) refl (λ same. front_is k es (subst (λ (m : ℕ). Ascends m es) (sym same) h.1))
  where
    go : (b : Bool) → nat_eq k e.form ≡ b → (k ≡ e.form → of_form k es ≡ take (count_front k es) es)
        → of_form k (e ∷ es) ≡ take (count_front k (e ∷ es)) (e ∷ es)
    go true is later = rw is (ap (λ l. e ∷ l) (later (same_number k e.form is)))
    go false is later = rw is (none_below k e.form es (above k e.form h.0 is) h.1)

-- and those behind are of later ones
pub behind_front : (k : ℕ) (es : List Spelled) → Ascends k es → Ascends (suc k) (drop (count_front k es) es)
behind_front k [] h = tt
behind_front k (e ∷ es) h = go (nat_eq k e.form) refl (λ same. behind_front k es (subst (λ (m : ℕ). Ascends m es) (sym same) h.1))
  where
    go : (b : Bool) → nat_eq k e.form ≡ b → (k ≡ e.form → Ascends (suc k) (drop (count_front k es) es))
        → Ascends (suc k) (drop (count_front k (e ∷ es)) (e ∷ es))
    go true is later = rw is (later (same_number k e.form is))
    go false is later = rw is (above k e.form h.0 is, h.1)

-- those of other forms are all behind the front
pub others_behind : (j k : ℕ) (es : List Spelled) → nat_eq j k ≡ false → of_form j (drop (count_front k es) es) ≡ of_form j es
others_behind j k [] e = refl
others_behind j k (x ∷ xs) e = go (nat_eq k x.form) refl (others_behind j k xs e)
  where
    go : (b : Bool) → nat_eq k x.form ≡ b → of_form j (drop (count_front k xs) xs) ≡ of_form j xs
        → of_form j (drop (count_front k (x ∷ xs)) (x ∷ xs)) ≡ of_form j (x ∷ xs)
    go true is ih =
        let other : nat_eq j x.form ≡ false = ap (nat_eq j) (sym (same_number k x.form is)) ∙ e in
        rw (is, other) ih
    go false is ih = rw is refl
