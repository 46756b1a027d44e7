-- What faults make of an expression, and what makes one true.
use Rattle.std.proofs.Common.{◌≡◌, ℕ, zero, suc, ◌<◌, length, arith, Bool, true, false, ◌&&◌, List, [], ◌∷◌, Some, None, Result, Ok, Err, IsTrue, refl, ap, ◌∙◌}
use Rattle.std.specs.Prelude.{IsErr, slice_index_or}
use Rattle.std.specs.List.{Contains}
use Rattle.fhir_json.specs.Tree.{Text}
use Rattle.fhir_schema.specs.Covers.{derives}
use Rattle.fhir_instance.specs.Items.{Item, type_of}
use Rattle.fhir_fp_syntax.specs.Expression.{Expression, name, child, call, typed, filtered, binary}
use Rattle.fhir_fp_syntax.specs.declared.expr.Operator.{Operator}
use Rattle.fhir_fp_syntax.specs.declared.expr.Operator.TheVariants.{And}
use Rattle.fhir_fp_syntax.specs.declared.expr.Filter.{Filter}
use Rattle.fhir_fp_syntax.specs.declared.expr.Function.{Function}
use Rattle.fhir_fp_syntax.specs.declared.expr.TypeTest.{TypeTest}
use Rattle.fhir_fp_values.specs.declared.fault.EvalFault.{EvalFault}
use Rattle.fhir_fp_values.specs.Values.{Plain, node}
use Rattle.fhir_fp_eval.specs.Worlds.{World}
use Rattle.fhir_fp_values.specs.Equality.{Kleene, kleene_and, is_yes}
use Rattle.fhir_fp_eval.specs.Meaning.{◌>>=◌, Found, den, criteria_hold, values_where, children_of, function_result, type_test_result, operator_result, of_truths, truth_of, answer, filtered_by, verdict, is_true}

pub child_faulty : (w : World) (a : Expression) (n : Text) (x : Plain) (e : EvalFault) → den w a x ≡ Err e → den w (child a n) x ≡ Err e
unfolding den
child_faulty w a n x e h = ap (λ (r : Found). r >>= λ vs. Ok (children_of n vs)) h

pub function_faulty : (w : World) (f : Function) (a : Expression) (x : Plain) (e : EvalFault) → den w a x ≡ Err e → den w (call f a) x ≡ Err e
unfolding den
function_faulty w f a x e h = ap (λ (r : Found). r >>= λ vs. function_result f vs) h

pub test_faulty : (w : World) (f : TypeTest) (a : Expression) (t : Text) (x : Plain) (e : EvalFault) → den w a x ≡ Err e → den w (typed f a t) x ≡ Err e
unfolding den
test_faulty w f a t x e h = ap (λ (r : Found). r >>= λ vs. type_test_result w.schema f t vs) h

pub filter_faulty : (w : World) (f : Filter) (a c : Expression) (x : Plain) (e : EvalFault) → den w a x ≡ Err e → den w (filtered f a c) x ≡ Err e
unfolding den
filter_faulty w f a c x e h = ap (λ (r : Found). r >>= λ vs. (values_where (den w c) vs >>= λ ws. Ok (filtered_by f vs ws))) h

pub left_faulty : (w : World) (op : Operator) (a b : Expression) (x : Plain) (e : EvalFault) → den w a x ≡ Err e → den w (binary op a b) x ≡ Err e
unfolding den
left_faulty w op a b x e h = ap (λ (r : Found). r >>= λ vs. (den w b x >>= λ ws. operator_result w.schema op vs ws)) h

pub right_faulty : (w : World) (op : Operator) (a b : Expression) (x : Plain) (vs : List Plain) (e : EvalFault) → den w a x ≡ Ok vs → den w b x ≡ Err e → den w (binary op a b) x ≡ Err e
unfolding den
right_faulty w op a b x vs e h k =
    ap (λ (r : Found). r >>= λ vs. (den w b x >>= λ ws. operator_result w.schema op vs ws)) h ∙ ap (λ (r : Found). r >>= λ ws. operator_result w.schema op vs ws) k

fault_first : {A B : Type 0} (r : Result A EvalFault) (f : A → Result B EvalFault) → IsErr r → IsErr (r >>= f)
fault_first (Ok x) f h = absurd cc
fault_first (Err e) f h = refl

fault_then : {A B : Type 0} (r : Result A EvalFault) (f : A → Result B EvalFault) → ((x : A) → IsErr (f x)) → IsErr (r >>= f)
fault_then (Ok x) f h = h x
fault_then (Err e) f h = refl

is_fault : {A : Type 0} (r : Result A EvalFault) (e : EvalFault) → r ≡ Err e → IsErr r
is_fault r e h = rw h refl

kept_faulty : (c : Plain → Found) (vs : List Plain) (k : ℕ) (v : Plain) (e : EvalFault) → k < length vs → slice_index_or vs k v ≡ v → criteria_hold c v ≡ Err e → IsErr (values_where c vs)
unfolding values_where
kept_faulty c [] k v e h is faulty = absurd (omega arith)
kept_faulty c (u ∷ us) zero v e h is faulty = fault_first (criteria_hold c u) _ (is_fault (criteria_hold c u) e (ap (criteria_hold c) is ∙ faulty))
kept_faulty c (u ∷ us) (suc k) v e h is faulty =
    fault_then (criteria_hold c u) _ (λ b. fault_first (values_where c us) _ (kept_faulty c us k v e (omega arith) is faulty))

pub asked_faulty : (w : World) (f : Filter) (a c : Expression) (x : Plain) (vs : List Plain) (v : Plain) (e : EvalFault) → den w a x ≡ Ok vs → Contains vs v → criteria_hold (den w c) v ≡ Err e → IsErr (den w (filtered f a c) x)
unfolding den
asked_faulty w f a c x vs v e h k faulty = rw h (fault_first (values_where (den w c) vs) _ (kept_faulty (den w c) vs k.0 v e k.1 k.2 faulty))

-- whether the truth of a result is true
abbrev verdict_of : Found → Bool
verdict_of r = verdict (r >>= λ vs. (truth_of vs >>= λ p. Ok (is_yes p)))

of_answers : (P Q : Result Kleene EvalFault) → verdict ((P >>= λ p. (Q >>= λ q. Ok (answer (kleene_and p q)))) >>= λ vs. (truth_of vs >>= λ p. Ok (is_yes p)))
    ≡ (verdict (P >>= λ p. Ok (is_yes p)) && verdict (Q >>= λ p. Ok (is_yes p)))
of_answers (Ok (Some true)) (Ok (Some true)) = refl
of_answers (Ok (Some true)) (Ok (Some false)) = refl
of_answers (Ok (Some true)) (Ok None) = refl
of_answers (Ok (Some true)) (Err e) = refl
of_answers (Ok (Some false)) (Ok q) = refl
of_answers (Ok (Some false)) (Err e) = refl
of_answers (Ok None) (Ok (Some true)) = refl
of_answers (Ok None) (Ok (Some false)) = refl
of_answers (Ok None) (Ok None) = refl
of_answers (Ok None) (Err e) = refl
of_answers (Err e) Q = refl

and_false : (b : Bool) → false ≡ (b && false)
and_false true = refl
and_false false = refl

of_both : (r s : Found) → verdict_of (r >>= λ vs. (s >>= λ ws. of_truths kleene_and vs ws)) ≡ (verdict_of r && verdict_of s)
of_both (Ok vs) (Ok ws) = of_answers (truth_of vs) (truth_of ws)
of_both (Ok vs) (Err e) = and_false (verdict_of (Ok vs))
of_both (Err e) s = refl

pub both_true : (w : World) (a b : Expression) (x : Item) → is_true w (binary And a b) x ≡ (is_true w a x && is_true w b x)
unfolding is_true den
both_true w a b x = of_both (den w a (node x)) (den w b (node x))

pub nothing_untrue : (w : World) (a : Expression) (x : Item) → den w a (node x) ≡ Ok [] → is_true w a x ≡ false
unfolding is_true
nothing_untrue w a x h = ap (λ (r : Found). verdict (criteria_hold (λ _. r) (node x))) h

pub fault_untrue : (w : World) (a : Expression) (x : Item) (e : EvalFault) → den w a (node x) ≡ Err e → is_true w a x ≡ false
unfolding is_true
fault_untrue w a x e h = ap (λ (r : Found). verdict (criteria_hold (λ _. r) (node x))) h

pub begins_by_type : (w : World) (type : Text) (x : Item) → IsTrue (derives w.schema (type_of x) type) → den w (name type) (node x) ≡ Ok (node x ∷ [])
unfolding den
begins_by_type w type x h = rw h refl
