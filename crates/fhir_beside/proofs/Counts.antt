-- Counts of a loop over places.
use Rattle.std.proofs.Common.{◌≡◌, ℕ, suc, ◌<◌, ◌≤◌, ◌+◌, Bool, true, false, cond, List, ◌∷◌, length, drop, if◌then◌else◌}
use Rattle.std.proofs.Common.{ap, sym, ◌∙◌, arith, add-one}
use Rattle.std.specs.Option.{option_map_or}
use Rattle.std.specs.List.{slice_get, count_by}
use Rattle.std.proofs.lemmas.List.Sums.{sum_by-drop_more}
use Rattle.fhir_alike.proofs.Rests.{rest_at}

sums : (count one rest here next after total : ℕ) → next ≡ count + one → count + here ≡ total → here ≡ one + rest → after ≡ rest → next + after ≡ total
sums count one rest here next after total e f g h = omega arith

module _ {A : Type 0} (one : ℕ → A → Bool) (from : ℕ → List A → ℕ)
    (step : (k : ℕ) (x : A) (xs : List A) → from k (x ∷ xs) ≡ (if one k x then 1 else 0) + from (suc k) xs) where
  pub count_turn : (xs : List A) (i count next total : ℕ) (b : Bool) → i < length xs → b ≡ option_map_or (one i) (slice_get xs i) false
      → next ≡ count + (if b then 1 else 0) → count + from i (drop i xs) ≡ total → next + from (i + 1) (drop (i + 1) xs) ≡ total
  count_turn xs i count next total b h is now was =
      let r = rest_at xs i h in
      let there : b ≡ one i r.0 = is ∙ ap (λ o. option_map_or (one i) o false) r.1 in
      let split : from i (drop i xs) ≡ (if b then 1 else 0) + from (suc i) (drop (i + 1) xs) =
      ap (from i) r.2 ∙ step i r.0 (drop (i + 1) xs) ∙ ap (λ c. (if c then 1 else 0) + from (suc i) (drop (i + 1) xs)) (sym there) in
      sums count (if b then 1 else 0) (from (suc i) (drop (i + 1) xs)) (from i (drop i xs)) next (from (i + 1) (drop (i + 1) xs)) total now was split
      (ap (λ k. from k (drop (i + 1) xs)) (add-one i))

pub if_below : (count next place : ℕ) (b : Bool) → next ≡ count + (if b then 1 else 0) → count ≤ place → next ≤ place + 1
if_below count next place true e h = omega arith
if_below count next place false e h = omega arith

pub count_step : {A : Type 0} (p : A → Bool) (x : A) (xs : List A) → count_by p (x ∷ xs) ≡ (if p x then 1 else 0) + count_by p xs
count_step p x xs = sum_by-drop_more (λ y. cond (p y) 1 0) (x ∷ xs) 0 x (omega arith)
