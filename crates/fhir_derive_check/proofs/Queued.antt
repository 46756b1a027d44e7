-- Pairs that wait, each once.
use Rattle.std.proofs.Common.{◌≡◌, ◌<◌, ◌+◌, ℕ, Bool, true, false, List, [], ◌∷◌, ◌++◌, refl, sym, ap, ◌∙◌, inl, inr, IsTrue, ◌||◌, not, length, take, take-suc, add-one, get_or}
use Rattle.std.proofs.lemmas.Bool.{and_parts, and_from, false≢true, cases_Bool}
use Rattle.fhir_certificate.specs.declared.pair.Pair.{Pair}
use Rattle.fhir_cert_check.specs.PairSet.{same_pair, has_pair}
use Rattle.fhir_derive_check.specs.Finding.{is_in}
use Rattle.fhir_derive_check.specs.Deriving.{none_twice}
use Rattle.fhir_derive_check.specs.Pruning.{waiting_in, IsQueue}
use Rattle.fhir_derive_check.specs.declared.queue.Queue.{Queue}
use Rattle.fhir_derive_check.proofs.Same.{in-append, same-true, same-of}

-- ---- one more in a list

in-between : (xs ys : List Pair) (p q : Pair) → is_in (xs ++ p ∷ ys) q ≡ (same_pair q p || is_in (xs ++ ys) q)
in-between xs ys p q = in-append xs (p ∷ ys) q ∙ swapped (same_pair q p) (is_in xs q) (is_in ys q) ∙ ap (λ b. same_pair q p || b) (sym (in-append xs ys q))
  where
    swapped : (a b c : Bool) → (b || (a || c)) ≡ (a || (b || c))
    swapped true true c = refl
    swapped true false c = refl
    swapped false true c = refl
    swapped false false c = refl

once-between : (xs ys : List Pair) (p : Pair) → is_in (xs ++ ys) p ≡ false → none_twice (xs ++ ys) ≡ true → none_twice (xs ++ p ∷ ys) ≡ true
once-between [] ys p gone once = and_from (not (is_in ys p)) (none_twice ys) (ap not gone) once
once-between (x ∷ xs) ys p gone once =
    let parts = and_parts (not (is_in (xs ++ ys) x)) (none_twice (xs ++ ys)) once in
    let apart = neither (same_pair p x) (is_in (xs ++ ys) p) gone in
    let turned : same_pair x p ≡ false = elim (cases_Bool (same_pair x p)) [
      | inl same ↦ absurd (false≢true (sym apart.0 ∙ same-of p x (sym (same-true x p same))))
      | inr other ↦ other
    ]
    in
    and_from (not (is_in (xs ++ p ∷ ys) x)) (none_twice (xs ++ p ∷ ys))
    (ap not (in-between xs ys p x ∙ ap (λ b. b || is_in (xs ++ ys) x) turned) ∙ parts.0)
    (once-between xs ys p apart.1 parts.1)
  where
    neither : (a b : Bool) → (a || b) ≡ false → (a ≡ false) × (b ≡ false)
    neither true b e = absurd (false≢true (sym e))
    neither false b e = (refl, e)

-- the next of a list
pub in-one_more : (ps : List Pair) (i : ℕ) (d p : Pair) (old : Bool) → i < length ps → (is_in (take (i + 1) ps) p || old) ≡ (same_pair p (get_or ps i d) || (is_in (take i ps) p || old))
in-one_more ps i d p old below =
    ap (λ l. is_in l p || old) (ap (λ k. take k ps) (add-one i) ∙ take-suc ps i d below)
    ∙ ap (λ b. b || old) (in-append (take i ps) (get_or ps i d ∷ []) p) ∙ turned (is_in (take i ps) p) (same_pair p (get_or ps i d))
  where
    turned : (a b : Bool) → ((a || (b || false)) || old) ≡ (b || (a || old))
    turned true true = refl
    turned true false = refl
    turned false true = refl
    turned false false = refl

-- ---- one more that waits

module _ (old now : Queue) (p : Pair) (put : (q : Pair) → has_pair now.waiting q ≡ (same_pair q p || has_pair old.waiting q)) where
  -- one that waits already
  pub still-in : IsQueue old → IsTrue (has_pair old.waiting p) → waiting_in now ≡ waiting_in old → (q : Pair) → is_in (waiting_in now) q ≡ (same_pair q p || is_in (waiting_in old) q)
  still-in queue waits is q = ap (λ l. is_in l q) is ∙ go (same_pair q p) refl
    where
      go : (b : Bool) → same_pair q p ≡ b → is_in (waiting_in old) q ≡ (b || is_in (waiting_in old) q)
      go true e = ap (is_in (waiting_in old)) (same-true q p e) ∙ sym (queue.same p) ∙ waits
      go false e = refl

  -- one that didn't wait
  module _ (xs ys : List Pair) (was : waiting_in old ≡ xs ++ ys) (is : waiting_in now ≡ xs ++ p ∷ ys) where
    pub put-in : (q : Pair) → is_in (waiting_in now) q ≡ (same_pair q p || is_in (waiting_in old) q)
    put-in q = ap (λ l. is_in l q) is ∙ in-between xs ys p q ∙ ap (λ l. same_pair q p || is_in l q) (sym was)

    pub put-queue : has_pair old.waiting p ≡ false → IsQueue old → IsQueue now
    put-queue fresh queue = record {
      same = λ q. put q ∙ ap (λ b. same_pair q p || b) (queue.same q) ∙ sym (put-in q);
      once = ap none_twice is ∙ once-between xs ys p (ap (λ l. is_in l p) (sym was) ∙ sym (queue.same p) ∙ fresh) (ap none_twice (sym was) ∙ queue.once);
    }
