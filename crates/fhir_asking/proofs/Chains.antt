-- Laws of answers by asking.
use Rattle.std.proofs.Common.{◌≡◌, ℕ, zero, suc, ◌+◌, ◌-◌, ◌<◌, List, [], length, get_or, true, Option, Some, None, ◌⊎◌, inl, inr, refl, ap, sym, ◌∙◌, zero-add, arith}
use Rattle.std.proofs.Math.Nat.{suc-add}
use Rattle.std.proofs.lemmas.Bool.{cases_lt}
use Rattle.std.specs.Map.{lookup}
use Rattle.std.specs.Str.{bytes_eq}
use Rattle.std.specs.Option.{option_map_or}
use Rattle.fhir_json.specs.Tree.{Text}
use Rattle.fhir_asking.specs.Asking.{Asking, given, asks, Answer, wants, found, is_wanting, once, run, answer, known, Holds}
use Rattle.fhir_asking.specs.Settling.{Needs, IsChain}

module _ {A : Type 0} where
  pub found_same : (o p : Option A) → (let q : Answer A = found o in q) ≡ found p → o ≡ p
  found_same o p e = cc

  -- more answers, and the same is found
  run_more_at : (ask more : Text → Answer A) (z : Text) (k : Option A → Asking A) (o : Option A) → ((p : Option A) → ask z ≡ found p → more z ≡ found p) → ((p : Option A) → run ask (k p) ≡ found o → run more (k p) ≡ found o) → (r : Answer A) → ask z ≡ r → once r (λ p. run ask (k p)) ≡ found o → once (more z) (λ p. run more (k p)) ≡ found o
  run_more_at ask more z k o h ih (wants y) is e = cc
  run_more_at ask more z k o h ih (found p) is e = rw (h p is) (ih p e)

  pub run_more : (ask more : Text → Answer A) → ((z : Text) (o : Option A) → ask z ≡ found o → more z ≡ found o) → (a : Asking A) (o : Option A) → run ask a ≡ found o → run more a ≡ found o
  run_more ask more h (given p) o e = e
  run_more ask more h (asks z k) o e =
      run_more_at ask more z k o (h z) (λ p. run_more ask more h (k p) o) (ask z) refl e

  pub answer_next : (asking : Text → Asking A) (n : ℕ) (x : Text) (o : Option A) → answer asking n x ≡ found o → answer asking (suc n) x ≡ found o
  answer_next asking zero x o e = cc
  answer_next asking (suc n) x o e = run_more (answer asking n) (answer asking (suc n)) (answer_next asking n) (asking x) o e

  pub answer_more : (asking : Text → Asking A) (n k : ℕ) (x : Text) (o : Option A) → answer asking n x ≡ found o → answer asking (k + n) x ≡ found o
  answer_more asking n zero x o e = rw zero-add e
  answer_more asking n (suc k) x o e = rw suc-add (answer_next asking (k + n) x o (answer_more asking n k x o e))

  -- there is one answer
  pub one_answer : (asking : Text → Asking A) (n m : ℕ) (x : Text) (o p : Option A) → answer asking n x ≡ found o → answer asking m x ≡ found p → o ≡ p
  one_answer asking n m x o p e f =
      let l : answer asking (m + n) x ≡ found o = answer_more asking n m x o e in
      let r : answer asking (n + m) x ≡ found p = answer_more asking m n x p f in
      let c : n + m ≡ m + n = omega arith in
      let s : answer asking (m + n) x ≡ found p = ap (λ k. answer asking k x) (sym c) ∙ r in
      cc

  -- what was found within a bound is found within each, or isn't answered there
  agrees_at : (asking : Text → Asking A) (n m : ℕ) (x : Text) (o : Option A) → answer asking n x ≡ found o → (r : Answer A) → answer asking m x ≡ r → (is_wanting (answer asking m x) ≡ true) ⊎ (answer asking m x ≡ found o)
  agrees_at asking n m x o e (wants y) is = inl (ap is_wanting is)
  agrees_at asking n m x o e (found p) is = inr (is ∙ ap found (one_answer asking m n x p o is e))

  pub agrees : (asking : Text → Asking A) (n m : ℕ) (x : Text) (o : Option A) → answer asking n x ≡ found o → (is_wanting (answer asking m x) ≡ true) ⊎ (answer asking m x ≡ found o)
  agrees asking n m x o e = agrees_at asking n m x o e (answer asking m x) refl

  -- what a run wants isn't answered, so the run isn't
  pub wanting_once : (r : Answer A) (k : Option A → Answer A) → is_wanting r ≡ true → is_wanting (once r k) ≡ true
  wanting_once (wants y) k e = refl
  wanting_once (found o) k e = cc

  run_needs_at : (known ask : Text → Answer A) (z y : Text) (k : Option A → Asking A) → ((w : Text) → known z ≡ wants w → w ≡ z) → ((o : Option A) → known z ≡ found o → (is_wanting (ask z) ≡ true) ⊎ (ask z ≡ found o)) → ((o : Option A) → run known (k o) ≡ wants y → is_wanting (run ask (k o)) ≡ true) → is_wanting (ask y) ≡ true → (r : Answer A) → known z ≡ r → once r (λ o. run known (k o)) ≡ wants y → is_wanting (once (ask z) (λ o. run ask (k o))) ≡ true
  run_needs_at known ask z y k honest agree ih w (wants v) is e =
      let same : v ≡ y = cc in
      let here : y ≡ z = sym same ∙ honest v is in
      wanting_once (ask z) (λ o. run ask (k o)) (ap (λ t. is_wanting (ask t)) (sym here) ∙ w)
  run_needs_at known ask z y k honest agree ih w (found o) is e =
      elim (agree o is) as (λ s. is_wanting (once (ask z) (λ o. run ask (k o))) ≡ true) [ inl u ↦ wanting_once (ask z) (λ o. run ask (k o)) u | inr f ↦ rw f (ih o e) ]

  pub run_needs : (known ask : Text → Answer A) → ((z w : Text) → known z ≡ wants w → w ≡ z) → ((z : Text) (o : Option A) → known z ≡ found o → (is_wanting (ask z) ≡ true) ⊎ (ask z ≡ found o)) → (y : Text) → is_wanting (ask y) ≡ true → (a : Asking A) → run known a ≡ wants y → is_wanting (run ask a) ≡ true
  run_needs known ask honest agree y w (given o) e = cc
  run_needs known ask honest agree y w (asks z k) e =
      run_needs_at known ask z y k (honest z) (agree z) (λ o. run_needs known ask honest agree y w (k o)) w (known z) refl e

  honest_at : (z w : Text) (o : Option (Option A)) → option_map_or found o (wants z) ≡ wants w → w ≡ z
  honest_at z w None e = cc
  honest_at z w (Some o) e = cc

  pub honest : (table : List (Text × Option A)) (z w : Text) → known table z ≡ wants w → w ≡ z
  honest table z w e = honest_at z w (lookup (bytes_eq z) table) e

  -- what the table's run wants is unknown
  run_wants_at : (t : List (Text × Option A)) (z y : Text) (k : Option A → Asking A) → ((o : Option A) → run (known t) (k o) ≡ wants y → is_wanting (known t y) ≡ true) → (r : Answer A) → known t z ≡ r → once r (λ o. run (known t) (k o)) ≡ wants y → is_wanting (known t y) ≡ true
  run_wants_at t z y k ih (wants v) is e =
      let same : v ≡ y = cc in
      let here : y ≡ z = sym same ∙ honest t z v is in
      ap (λ n. is_wanting (known t n)) here ∙ ap is_wanting is
  run_wants_at t z y k ih (found o) is e = ih o e

  pub run_wants : (t : List (Text × Option A)) (y : Text) (a : Asking A) → run (known t) a ≡ wants y → is_wanting (known t y) ≡ true
  run_wants t y (given o) e = cc
  run_wants t y (asks z k) e = run_wants_at t z y k (λ o. run_wants t y (k o)) (known t z) refl e

  -- the table's run wants y
  pub needs : (asking : Text → Asking A) (table : List (Text × Option A)) (x y : Text) → Holds asking table → run (known table) (asking x) ≡ wants y → Needs asking x y
  needs asking table x y holds e = λ n w. run_needs (known table) (answer asking n) (honest table) (λ z o at. agrees asking holds.0 n z o (holds.1 z o at)) y w (asking x) e

  -- a chain whose last one needs one of them has no answers
  pub circle : (asking : Text → Asking A) (xs : List Text) (j : ℕ) → IsChain asking xs → j < length xs → Needs asking (get_or xs (length xs - 1) []) (get_or xs j []) → (n k : ℕ) → k < length xs → is_wanting (answer asking n (get_or xs k [])) ≡ true
  circle asking xs j chain inside last zero k h = refl
  circle asking xs j chain inside last (suc n) k h =
      elim (cases_lt (k + 1) (length xs)) as (λ s. is_wanting (answer asking (suc n) (get_or xs k [])) ≡ true) [
        | inr end ↦ let at : k ≡ length xs - 1 = omega arith in
            rw at (last n (circle asking xs j chain inside last n j inside))
        | inl more ↦ chain k more n (circle asking xs j chain inside last n (k + 1) more)
      ]
