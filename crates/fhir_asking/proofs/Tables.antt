-- A table that holds, as one more answer is put.
use Rattle.std.proofs.Common.{◌≡◌, suc, List, Bool, true, false, cond, Option, refl, ap, sym, ◌∙◌, subst}
use Rattle.std.proofs.lemmas.Slice.Eq.{bytes_eq-Decides}
use Rattle.std.specs.Str.{bytes_eq}
use Rattle.fhir_json.specs.Tree.{Text}
use Rattle.fhir_asking.specs.Asking.{Asking, found, run, answer, known, Holds, Extends}
use Rattle.fhir_asking.specs.Settling.{Learns, Grows}
use Rattle.fhir_asking.proofs.Chains.{run_more, answer_next, one_answer}
use Rattle.fhir_asking.proofs.Lists.{same}

module _ {A : Type 0} where
  pub known_there : (old new : List (Text × Option A)) (x : Text) (a : Option A) → Learns old new x a → known new x ≡ found a
  known_there old new x a learns = learns x ∙ ap (λ (b : Bool). cond b (found a) (known old x)) (same x)

  -- what a run over the table finds, each bound above the table's finds
  pub answer_of : (asking : Text → Asking A) (t : List (Text × Option A)) (x : Text) (a : Option A) (holds : Holds asking t) → run (known t) (asking x) ≡ found a → answer asking (suc holds.0) x ≡ found a
  answer_of asking t x a holds e = run_more (known t) (answer asking holds.0) holds.1 (asking x) a e

  holds_at : (asking : Text → Asking A) (t : List (Text × Option A)) (x : Text) (a : Option A) (holds : Holds asking t) → run (known t) (asking x) ≡ found a → (z : Text) (o : Option A) (b : Bool) → bytes_eq z x ≡ b → cond b (found a) (known t z) ≡ found o → answer asking (suc holds.0) z ≡ found o
  holds_at asking t x a holds e z o true is f =
      ap (answer asking (suc holds.0)) ((bytes_eq-Decides z x).0 is) ∙ answer_of asking t x a holds e ∙ f
  holds_at asking t x a holds e z o false is f = answer_next asking holds.0 z o (holds.1 z o f)

  holds_more : (asking : Text → Asking A) (old new : List (Text × Option A)) (x : Text) (a : Option A) → Holds asking old → run (known old) (asking x) ≡ found a → Learns old new x a → Holds asking new
  holds_more asking old new x a holds e learns =
      (suc holds.0, λ z o f. holds_at asking old x a holds e z o (bytes_eq z x) refl (sym (learns z) ∙ f))

  extends_at : (asking : Text → Asking A) (t : List (Text × Option A)) (x : Text) (a : Option A) (holds : Holds asking t) → run (known t) (asking x) ≡ found a → (z : Text) (o : Option A) → known t z ≡ found o → (b : Bool) → bytes_eq z x ≡ b → cond b (found a) (known t z) ≡ found o
  extends_at asking t x a holds e z o f true is =
      let is_it : z ≡ x = (bytes_eq-Decides z x).0 is in
      let there : answer asking holds.0 x ≡ found o = ap (answer asking holds.0) (sym is_it) ∙ holds.1 z o f in
      ap found (one_answer asking (suc holds.0) holds.0 x a o (answer_of asking t x a holds e) there)
  extends_at asking t x a holds e z o f false is = f

  extends_more : (asking : Text → Asking A) (old new : List (Text × Option A)) (x : Text) (a : Option A) → Holds asking old → run (known old) (asking x) ≡ found a → Learns old new x a → Extends old new
  extends_more asking old new x a holds e learns = λ z o f. learns z ∙ extends_at asking old x a holds e z o f (bytes_eq z x) refl

  -- a table grows by what a run over it finds
  pub grows : (asking : Text → Asking A) (old new : List (Text × Option A)) (x : Text) (a : Option A) → Holds asking old → run (known old) (asking x) ≡ found a → Learns old new x a → Grows asking old new
  grows asking old new x a holds e learns =
      record { holds = holds_more asking old new x a holds e learns; extends = extends_more asking old new x a holds e learns }

  -- a table that stays grows
  pub stays : (asking : Text → Asking A) (old new : List (Text × Option A)) → Holds asking old → new ≡ old → Grows asking old new
  stays asking old new holds e = record {
    holds = subst (Holds asking) (sym e) holds;
    extends = λ z o f. ap (λ t. known t z) e ∙ f;
  }

  pub extends_both : (a b c : List (Text × Option A)) → Extends a b → Extends b c → Extends a c
  extends_both a b c h k = λ z o f. k z o (h z o f)
