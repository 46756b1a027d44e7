-- Inputs that are gone through one behind the other.
use Rattle.std.proofs.Common.{◌≡◌, ◌<◌, ◌≤◌, ◌+◌, ℕ, zero, suc, List, [], ◌∷◌, ◌++◌, Option, length, drop, refl, sym, subst, append_assoc, append-nil, arith}
use Rattle.std.specs.Io.KnownBytes.{Appends}
use Rattle.fhir_inputs.specs.Inputs.{InputValue, input_at}
use Rattle.fhir_inputs.specs.Going.{IsGoneThrough, GoesThrough}
use Rattle.fhir_inputs.specs.declared.teller.Stop.{Stop}
use Rattle.fhir_inputs.proofs.Told.{grown, not_grown}

drop_at : (all : List InputValue) (k : ℕ) → k < length all → drop k all ≡ input_at all k ∷ drop (suc k) all
drop_at [] k less = absurd (grind arith)
drop_at (x ∷ xs) zero less = refl
drop_at (x ∷ xs) (suc k) less = drop_at xs k (omega arith)

drop_all : (all : List InputValue) (k : ℕ) → length all ≤ k → drop k all ≡ []
drop_all [] zero is = refl
drop_all [] (suc k) is = refl
drop_all (x ∷ xs) zero is = absurd (grind arith)
drop_all (x ∷ xs) (suc k) is = drop_all xs k (omega arith)

module _ {V : Type 0} (A : V → List ℕ → V → List ℕ → Type 0) (B : V → ℕ → V → Type 0) (S : V → Stop → V → List ℕ → Type 0) where
  -- The first inputs were gone through, up to a place: whatever comes of the others, it comes of all behind that.
  pub record AreGone (all : List InputValue) (place : ℕ) (v w : V) (old new : Option (List ℕ)) : Type 0 where
    pub written : List ℕ
    pub grows : Appends old new written
    pub behind : (x : V) (rest : List ℕ) → GoesThrough A B S place (drop place all) w x rest → GoesThrough A B S 0 all v x (written ++ rest)

  pub none_gone : (all : List InputValue) (v : V) (known : Option (List ℕ)) → AreGone all 0 v v known known
  none_gone all v known = record { written = []; grows = not_grown known; behind = λ x rest goes. goes }

  more : (place : ℕ) (input : InputValue) (inputs : List InputValue) (v w x : V) (first rest : List ℕ) → IsGoneThrough A B S place input v w first
      → GoesThrough A B S (suc place) inputs w x rest → GoesThrough A B S place (input ∷ inputs) v x (first ++ rest)
  unfolding GoesThrough
  more place input inputs v w x first rest one goes = (w, first, rest, one, goes, refl)

  pub one_more : (all : List InputValue) (place : ℕ) (u v w : V) (a b c : Option (List ℕ)) (first : List ℕ) → place < length all → AreGone all place u v a b
      → IsGoneThrough A B S place (input_at all place) v w first → Appends b c first → AreGone all (place + 1) u w a c
  one_more all place u v w a b c first less gone one grows =
      let next : suc place ≡ place + 1 = omega arith in
      subst (λ n. AreGone all n u w a c) next
      (record {
        written = gone.written ++ first;
        grows = grown a b c gone.written first gone.grows grows;
        behind = λ x rest goes.
            subst (λ t. GoesThrough A B S 0 all u x t) (sym (append_assoc gone.written first rest))
            (gone.behind x (first ++ rest)
            (subst (λ l. GoesThrough A B S place l v x (first ++ rest)) (sym (drop_at all place less))
            (more place (input_at all place) (drop (suc place) all) v w x first rest one goes)));
      })

  at_end : (place : ℕ) (v : V) → GoesThrough A B S place [] v v []
  unfolding GoesThrough
  at_end place v = (refl, refl)

  pub all_gone : (all : List InputValue) (place : ℕ) (v w : V) (old new : Option (List ℕ)) → length all ≤ place → AreGone all place v w old new
      → (written : List ℕ) × GoesThrough A B S 0 all v w written × Appends old new written
  all_gone all place v w old new is gone = (
    gone.written,
    subst (λ t. GoesThrough A B S 0 all v w t) (append-nil gone.written)
        (gone.behind w [] (subst (λ l. GoesThrough A B S place l w w []) (sym (drop_all all place is)) (at_end place w))),
    gone.grows,
  )
