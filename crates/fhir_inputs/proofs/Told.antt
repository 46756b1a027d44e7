-- How one input is told.
use Rattle.std.proofs.Common.{◌≡◌, ℕ, List, [], ◌∷◌, ◌++◌, None, Some, Ok, Err, Option, Result, IfSome, OnOk, refl, sym, ap, ◌∙◌, append_assoc, append-nil, inl, inr}
use Rattle.std.specs.Io.KnownBytes.{Appends}
use Rattle.fhir_serve.specs.Lines.{AreFirst}
use Rattle.fhir_serve.specs.Serving.{Serves}
use Rattle.fhir_serve.specs.Ending.{AreRead}
use Rattle.fhir_serve.specs.Answered.{IsAnswered}
use Rattle.fhir_serve.specs.declared.serving.Ending.TheVariants.{Unread}
use Rattle.fhir_inputs.specs.Inputs.{InputValue, lines_in}
use Rattle.fhir_inputs.specs.Going.{IsStopped, IsTold}
use Rattle.fhir_inputs.specs.declared.input.Kind.{Kind}
use Rattle.fhir_inputs.specs.declared.input.Kind.TheVariants.{Document, Lines}
use Rattle.fhir_inputs.specs.declared.teller.Stop.{Stop}

pub grown : (a b c : Option (List ℕ)) (xs ys : List ℕ) → Appends a b xs → Appends b c ys → Appends a c (xs ++ ys)
grown None b c xs ys p q = tt
grown (Some ks) None c xs ys p q = absurd p
grown (Some ks) (Some bs) None xs ys p q = absurd q
grown (Some ks) (Some bs) (Some cs) xs ys p q = q ∙ ap (λ l. l ++ ys) p ∙ append_assoc ks xs ys

pub not_grown : (known : Option (List ℕ)) → Appends known known []
not_grown None = tt
not_grown (Some bytes) = sym (append-nil bytes)

weaker : {X E P Q : Type 0} (r : Result X E) → (P → Q) → OnOk r P → OnOk r Q
weaker (Ok x) f p = f p
weaker (Err e) f p = tt

none_of : (known : Option (List ℕ)) (kind : Kind) → IfSome known (λ bytes. AreFirst [] (lines_in kind bytes))
none_of None kind = tt
none_of (Some bytes) kind = (lines_in kind bytes, refl)

whole : (known : Option (List ℕ)) (bytes : List ℕ) → IfSome known (λ k. bytes ≡ k) → IfSome known (λ k. bytes ∷ [] ≡ lines_in Document k)
whole None bytes is = tt
whole (Some k) bytes is = ap (λ b. b ∷ []) is

module _ {V : Type 0} (A : V → List ℕ → V → List ℕ → Type 0) where
  serves_none : (v : V) → Serves A v [] v []
  unfolding Serves
  serves_none v = (refl, refl)

  serves_one : (v w : V) (line answer : List ℕ) → A v line w answer → Serves A v (line ∷ []) w answer
  unfolding Serves
  serves_one v w line answer answered = (w, answer, [], answered, (refl, refl), sym (append-nil answer))

module _ {V E : Type 0} (A : V → List ℕ → V → List ℕ → Type 0) (B : V → ℕ → V → Type 0) (S : V → Stop → V → List ℕ → Type 0) where
  -- one that stops as it begins
  pub stopped : (r : Result (Unit {0}) E) (input : InputValue) (v w : V) (stop : Stop) (old new : Option (List ℕ)) → IsStopped S v stop w r old new
      → OnOk r ((written : List ℕ) × IsTold A B S input v w written × Appends old new written)
  stopped r input v w stop old new (told, so, grows) =
      weaker r (λ a. (
        told,
        record { lines = []; last = v; answers = []; served = serves_none A v; ended = inr (none_of input.bytes input.kind, stop, told, so, refl) },
        a,
      )) grows

  -- a document whose bytes are answered as one line
  pub told_whole : (r : Result (Unit {0}) E) (known : Option (List ℕ)) (bytes : List ℕ) (v w : V) (old new : Option (List ℕ))
      → IfSome known (λ k. bytes ≡ k) → IsAnswered A v bytes w r old new
      → OnOk r ((written : List ℕ) × IsTold A B S (record { kind = Document; bytes = known }) v w written × Appends old new written)
  told_whole r known bytes v w old new is (answer, so, grows) =
      weaker r (λ a. (
        answer,
        record { lines = bytes ∷ []; last = w; answers = answer; served = serves_one A v w bytes answer so; ended = inl (whole known bytes is, refl, refl) },
        a,
      )) grows

  -- one that stops behind some of its lines
  pub stopped_behind : (r : Result (Unit {0}) E) (known : Option (List ℕ)) (v w x : V) (lines : List (List ℕ)) (answers : List ℕ) (stop : Stop)
      (old between new : Option (List ℕ)) → Serves A v lines w answers → AreRead Unread known lines → Appends old between answers
      → IsStopped S w stop x r between new
      → OnOk r ((written : List ℕ) × IsTold A B S (record { kind = Lines; bytes = known }) v x written × Appends old new written)
  stopped_behind r known v w x lines answers stop old between new served read grown_so (told, so, grows) =
      weaker r (λ a. (
        answers ++ told,
        record { lines = lines; last = w; answers = answers; served = served; ended = inr (read, stop, told, so, refl) },
        grown old between new answers told grown_so a,
      )) grows
