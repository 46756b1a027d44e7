-- Lists of tests: which of them fail, and which still do where one is harder to meet.
use Rattle.std.proofs.Common.{◌≡◌, List, [], ◌∷◌, ◌++◌, Bool, true, false, Some, None, refl, ap, sym, ◌∙◌, subst, IsTrue, append_assoc}
use Rattle.std.proofs.Common.{if◌then◌else◌}
use Rattle.std.proofs.lemmas.Bool.{and_parts, and_from}
use Rattle.std.proofs.lemmas.List.Folds.{list_all-append}
use Rattle.std.proofs.lemmas.Option.{none-some}
use Rattle.fhir_elements.specs.Tests.{first_of, all_hold}

module _ {R : Type 0} where
  -- where none is answered, all hold
  pub none_fails : (ts : List (Bool × R)) → first_of ts ≡ None → IsTrue (all_hold ts)
  none_fails [] e = refl
  none_fails (t ∷ ts) e = go t.0 refl e (none_fails ts)
    where
      go : (b : Bool) → t.0 ≡ b → (if b then first_of ts else Some t.1) ≡ None → (first_of ts ≡ None → IsTrue (all_hold ts))
          → IsTrue (all_hold (t ∷ ts))
      go true is e behind = and_from t.0 (all_hold ts) is (behind e)
      go false is e behind = absurd (none-some t.1 (sym e))

  -- where all hold, none is answered
  pub hold_none : (ts : List (Bool × R)) → IsTrue (all_hold ts) → first_of ts ≡ None
  hold_none [] h = refl
  hold_none (t ∷ ts) h =
      let parts = and_parts t.0 (all_hold ts) h in
      ap (λ b. if b then first_of ts else Some t.1) parts.0 ∙ hold_none ts parts.1

  module _ (a b : Bool) (u : R) (rest : List (Bool × R)) where
    -- all still hold where one is easier to meet
    pub hold_more : (front : List (Bool × R)) → (a ≡ true → b ≡ true)
        → IsTrue (all_hold (front ++ (a, u) ∷ rest)) → IsTrue (all_hold (front ++ (b, u) ∷ rest))
    hold_more [] more h =
        let parts = and_parts a (all_hold rest) h in and_from b (all_hold rest) (more parts.0) parts.1
    hold_more (t ∷ front) more h =
        let parts = and_parts t.0 (all_hold (front ++ (a, u) ∷ rest)) h in
        and_from t.0 (all_hold (front ++ (b, u) ∷ rest)) parts.0 (hold_more front more parts.1)

-- the same of two tests among others
module _ {R : Type 0} (a b : Bool) (u : R) (c d : Bool) (w : R) (between rest front : List (Bool × R)) where
  regroup : (x : Bool) (more : List (Bool × R)) → (front ++ ((x, u) ∷ (between ++ more))) ≡ ((front ++ ((x, u) ∷ between)) ++ more)
  regroup x more = sym (append_assoc front ((x, u) ∷ between) more)

  pub both_hold_more : (a ≡ true → b ≡ true) → (c ≡ true → d ≡ true)
      → IsTrue (all_hold (front ++ ((a, u) ∷ (between ++ ((c, w) ∷ rest)))))
      → IsTrue (all_hold (front ++ ((b, u) ∷ (between ++ ((d, w) ∷ rest)))))
  both_hold_more first second h =
      let one = hold_more a b u (between ++ ((c, w) ∷ rest)) front first h in
      subst (λ ts. IsTrue (all_hold ts)) (sym (regroup b ((d, w) ∷ rest)))
      (hold_more c d w rest (front ++ ((b, u) ∷ between)) second (subst (λ ts. IsTrue (all_hold ts)) (regroup b ((c, w) ∷ rest)) one))

module _ {R : Type 0} where
  it_holds : (a : Bool) (u : R) (rest front : List (Bool × R)) → IsTrue (all_hold (front ++ ((a, u) ∷ rest))) → (a ≡ true) × (all_hold rest ≡ true)
  it_holds a u rest front h =
      let parts = and_parts (all_hold front) (all_hold ((a, u) ∷ rest)) (sym (list_all-append (λ (test : Bool × R). test.0) front ((a, u) ∷ rest)) ∙ h) in
      and_parts a (all_hold rest) parts.1

  -- where all hold, so do two of them
  pub both_hold : (a : Bool) (u : R) (c : Bool) (w : R) (between rest front : List (Bool × R))
      → IsTrue (all_hold (front ++ ((a, u) ∷ (between ++ ((c, w) ∷ rest))))) → (a ≡ true) × (c ≡ true)
  both_hold a u c w between rest front h =
      let first = it_holds a u (between ++ ((c, w) ∷ rest)) front h in
      let second = it_holds c w rest between first.1 in
      (first.0, second.0)
