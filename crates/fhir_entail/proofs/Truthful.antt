-- What is entailed by expressions that are true is true.
use Rattle.std.proofs.Common.{◌≡◌, true, false, ◌&&◌, List, [], ◌∷◌, Some, None, Result, Ok, Err, IsTrue, refl, ap, subst, ◌∙◌, inl, inr}
use Rattle.std.specs.List.{All}
use Rattle.std.proofs.lemmas.Bool.{and_parts, or_cases}
use Rattle.std.proofs.lemmas.List.Elements.{All-head, All-tail}
use Rattle.fhir_instance.specs.Items.{Item}
use Rattle.fhir_fp_syntax.specs.Expression.{Expression, binary}
use Rattle.fhir_fp_syntax.specs.declared.expr.Operator.TheVariants.{And, Or, Implies}
use Rattle.fhir_fp_values.specs.declared.fault.EvalFault.{EvalFault}
use Rattle.fhir_fp_values.specs.Values.{Plain, node}
use Rattle.fhir_fp_eval.specs.Worlds.{World}
use Rattle.fhir_fp_values.specs.Equality.{Kleene, kleene_and, kleene_or, kleene_not, kleene_implies, is_yes}
use Rattle.fhir_fp_eval.specs.Meaning.{Found, ◌>>=◌, den, truth_of, answer, of_truths, verdict, is_true}
use Rattle.fhir_entail.specs.Same.{same_expression}
use Rattle.fhir_entail.specs.Total.{is_total_truth}
use Rattle.fhir_entail.specs.Entailment.{is_part, is_listed, entails}
use Rattle.fhir_entail.proofs.Alike.{one}
use Rattle.fhir_entail.proofs.Faultless.{truth_answered, has_truth}

abbrev IsTrueAt : World → Plain → Expression → Type 0
IsTrueAt w x e = (den w e x >>= truth_of) ≡ Ok (Some true)

-- ---- an expression is true exactly where its truth is

yes_only : (r : Result Kleene EvalFault) → IsTrue (verdict (r >>= λ p. Ok (is_yes p))) → r ≡ Ok (Some true)
yes_only (Ok (Some true)) h = refl
yes_only (Ok (Some false)) h = absurd cc
yes_only (Ok None) h = absurd cc
yes_only (Err e) h = absurd cc

truth_is : (r : Found) → IsTrue (verdict (r >>= λ vs. (truth_of vs >>= λ p. Ok (is_yes p)))) → (r >>= truth_of) ≡ Ok (Some true)
truth_is (Ok vs) h = yes_only (truth_of vs) h
truth_is (Err e) h = absurd cc

is_truth : (r : Found) → (r >>= truth_of) ≡ Ok (Some true) → IsTrue (verdict (r >>= λ vs. (truth_of vs >>= λ p. Ok (is_yes p))))
is_truth (Ok vs) h = ap (λ (q : Result Kleene EvalFault). verdict (q >>= λ p. Ok (is_yes p))) h
is_truth (Err e) h = absurd cc

true_at : (w : World) (e : Expression) (x : Item) → IsTrue (is_true w e x) → IsTrueAt w (node x) e
unfolding is_true
true_at w e x h = truth_is (den w e (node x)) h

at_true : (w : World) (e : Expression) (x : Item) → IsTrueAt w (node x) e → IsTrue (is_true w e x)
unfolding is_true
at_true w e x h = is_truth (den w e (node x)) h

-- ---- `and`, `or` and `implies`

made : (f : Kleene → Kleene → Kleene) (r s : Found) (p q : Kleene) → (r >>= truth_of) ≡ Ok p → (s >>= truth_of) ≡ Ok q
    → ((r >>= λ vs. (s >>= λ ws. of_truths f vs ws)) >>= truth_of) ≡ Ok (f p q)
made f (Ok vs) (Ok ws) p q h k = rw (h, k) (truth_answered (f p q))
made f (Ok vs) (Err e) p q h k = absurd cc
made f (Err e) s p q h k = absurd cc

split : (P Q : Result Kleene EvalFault) → ((P >>= λ p. (Q >>= λ q. Ok (answer (kleene_and p q)))) >>= truth_of) ≡ Ok (Some true)
    → (P ≡ Ok (Some true)) × (Q ≡ Ok (Some true))
split (Ok (Some true)) (Ok (Some true)) h = (refl, refl)
split (Ok (Some true)) (Ok (Some false)) h = absurd cc
split (Ok (Some true)) (Ok None) h = absurd cc
split (Ok (Some true)) (Err e) h = absurd cc
split (Ok (Some false)) (Ok q) h = absurd cc
split (Ok (Some false)) (Err e) h = absurd cc
split (Ok None) (Ok (Some true)) h = absurd cc
split (Ok None) (Ok (Some false)) h = absurd cc
split (Ok None) (Ok None) h = absurd cc
split (Ok None) (Err e) h = absurd cc
split (Err e) Q h = absurd cc

both : (r s : Found) → ((r >>= λ vs. (s >>= λ ws. of_truths kleene_and vs ws)) >>= truth_of) ≡ Ok (Some true)
    → ((r >>= truth_of) ≡ Ok (Some true)) × ((s >>= truth_of) ≡ Ok (Some true))
both (Ok vs) (Ok ws) h = split (truth_of vs) (truth_of ws) h
both (Ok vs) (Err e) h = absurd cc
both (Err e) s h = absurd cc

or_right : (p : Kleene) → kleene_or p (Some true) ≡ Some true
or_right None = refl
or_right (Some true) = refl
or_right (Some false) = refl

-- ---- what is listed, and what is entailed

module _ (w : World) (x : Item) where
  same_true : (e f : Expression) → IsTrue (same_expression f e) → IsTrueAt w (node x) f → IsTrueAt w (node x) e
  same_true e f h k = subst (λ (g : Expression). IsTrueAt w (node x) g) (one f e h) k

  part_true : (e f : Expression) → IsTrue (is_part e f) → IsTrueAt w (node x) f → IsTrueAt w (node x) e
  unfolding den
  part_true e (binary And a b) h k =
      elim (or_cases (same_expression (binary And a b) e) _ h) [
        | inl s ↦ same_true e (binary And a b) s k
        | inr s ↦
            let parts = both (den w a (node x)) (den w b (node x)) k in
            elim (or_cases (is_part e a) _ s) [
              | inl l ↦ part_true e a l parts.0
              | inr r ↦ part_true e b r parts.1
            ]
      ]
  part_true e f h k = same_true e f h k

  listed_true : (e : Expression) (known : List Expression) → All (λ k. IsTrue (is_true w k x)) known → IsTrue (is_listed known e)
      → IsTrueAt w (node x) e
  listed_true e [] all h = absurd cc
  listed_true e (k ∷ known) all h =
      elim (or_cases (is_part e k) _ h) [
        | inl p ↦ part_true e k p (true_at w k x (All-head (λ k. IsTrue (is_true w k x)) k known all))
        | inr p ↦ listed_true e known (All-tail (λ k. IsTrue (is_true w k x)) k known all) p
      ]

  module _ (known : List Expression) (all : All (λ k. IsTrue (is_true w k x)) known) where
    entailed_at : (e : Expression) → IsTrue (entails known e) → IsTrueAt w (node x) e
    unfolding den
    entailed_at (binary And a b) h =
        elim (or_cases (is_listed known (binary And a b)) _ h) [
          | inl p ↦ listed_true (binary And a b) known all p
          | inr p ↦
              let q = and_parts (entails known a) _ p in
              made kleene_and (den w a (node x)) (den w b (node x)) (Some true) (Some true) (entailed_at a q.0) (entailed_at b q.1)
        ]
    entailed_at (binary Or a b) h =
        elim (or_cases (is_listed known (binary Or a b)) _ h) [
          | inl p ↦ listed_true (binary Or a b) known all p
          | inr p ↦
              elim (or_cases (entails known a && is_total_truth b) _ p) [
                | inl l ↦
                    let q = and_parts (entails known a) _ l in
                    let t = has_truth w b (node x) q.1 in
                    made kleene_or (den w a (node x)) (den w b (node x)) (Some true) t.0 (entailed_at a q.0) t.1
                | inr r ↦
                    let q = and_parts (entails known b) _ r in
                    let t = has_truth w a (node x) q.1 in
                    made kleene_or (den w a (node x)) (den w b (node x)) t.0 (Some true) t.1 (entailed_at b q.0)
                    ∙ ap (λ (p : Kleene). Ok p) (or_right t.0)
              ]
        ]
    entailed_at (binary Implies a b) h =
        elim (or_cases (is_listed known (binary Implies a b)) _ h) [
          | inl p ↦ listed_true (binary Implies a b) known all p
          | inr p ↦
              let q = and_parts (entails known b) _ p in
              let t = has_truth w a (node x) q.1 in
              made kleene_implies (den w a (node x)) (den w b (node x)) t.0 (Some true) t.1 (entailed_at b q.0)
              ∙ ap (λ (p : Kleene). Ok p) (or_right (kleene_not t.0))
        ]
    entailed_at e h = listed_true e known all h

pub entailed_true : (w : World) (x : Item) (known : List Expression) (e : Expression) → All (λ k. IsTrue (is_true w k x)) known
    → IsTrue (entails known e) → IsTrue (is_true w e x)
entailed_true w x known e all h = at_true w e x (entailed_at w x known all e h)
