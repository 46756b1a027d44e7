-- A total expression has no fault, and a total truth is at most one truth.
use Rattle.std.proofs.Common.{◌≡◌, ℕ, not, ◌&&◌, List, [], ◌∷◌, Some, None, Result, Ok, IsTrue, refl, ap, ◌∙◌, inl, inr}
use Rattle.std.proofs.lemmas.Bool.{and_parts, or_cases}
use Rattle.fhir_fp_syntax.specs.Expression.{Expression, nothing, boolean, number, text, this, resource, context, name, child, call, typed, filtered, binary}
use Rattle.fhir_fp_syntax.specs.declared.expr.Operator.{Operator}
use Rattle.fhir_fp_syntax.specs.declared.expr.Operator.TheVariants as operators
use Rattle.fhir_fp_syntax.specs.declared.expr.Function.{Function}
use Rattle.fhir_fp_syntax.specs.declared.expr.Function.TheVariants as functions
use Rattle.fhir_fp_syntax.specs.declared.expr.Filter.{Filter}
use Rattle.fhir_fp_syntax.specs.declared.expr.Filter.TheVariants as filters
use Rattle.fhir_fp_syntax.specs.declared.expr.TypeTest.{TypeTest}
use Rattle.fhir_fp_syntax.specs.declared.expr.TypeTest.TheVariants as tests
use Rattle.fhir_fp_values.specs.declared.fault.EvalFault.{EvalFault}
use Rattle.fhir_fp_values.specs.Values.{Plain}
use Rattle.fhir_fp_eval.specs.Worlds.{World}
use Rattle.fhir_fp_values.specs.Equality.{Kleene, kleene_and, kleene_or, kleene_not, kleene_xor, kleene_implies, is_yes, equality}
use Rattle.fhir_fp_eval.specs.Meaning.{Found, ◌>>=◌, den, truth_of, answer, criteria_hold, values_where, function_result, type_test_result, operator_result, of_truths, filtered_by}
use Rattle.fhir_entail.specs.Total.{is_total, is_total_truth, joins_truths, is_equality, joins_lists, takes_lists, tests_lists, is_negation, is_where, is_of_type}
use Rattle.fhir_entail.specs.Truths.{HasResult, HasTruth}

-- ---- results that are no fault

abbrev Fine : {A : Type 0} → Result A EvalFault → Type 0
Fine {A} r = (x : A) × (r ≡ Ok x)

fine : {A : Type 0} (x : A) → Fine (Ok x)
fine x = (x, refl)

then : {A B : Type 0} (r : Result A EvalFault) (f : A → Result B EvalFault) → Fine r → ((x : A) → Fine (f x)) → Fine (r >>= f)
then r f (x, e) h = let y = h x in (y.0, ap (λ q. q >>= f) e ∙ y.1)

-- of at most one truth
abbrev OneTruth : Found → Type 0
OneTruth r = (p : Kleene) × (r ≡ Ok (answer p))

then_truth : {A : Type 0} (r : Result A EvalFault) (f : A → Found) → Fine r → ((x : A) → OneTruth (f x)) → OneTruth (r >>= f)
then_truth r f (x, e) h = let y = h x in (y.0, ap (λ q. q >>= f) e ∙ y.1)

pub truth_answered : (p : Kleene) → truth_of (answer p) ≡ Ok p
truth_answered None = refl
truth_answered (Some b) = refl

-- ---- functions and type tests

list_taken : (f : Function) (vs : List Plain) → IsTrue (takes_lists f) → Fine (function_result f vs)
list_taken functions.Children vs h = fine _
list_taken functions.Descendants vs h = fine _
list_taken functions.First vs h = fine _
list_taken functions.Count vs h = fine _
list_taken f vs h = absurd cc

list_tested : (f : Function) (vs : List Plain) → IsTrue (tests_lists f) → OneTruth (function_result f vs)
list_tested functions.Exists vs h = (Some _, refl)
list_tested functions.Empty vs h = (Some _, refl)
list_tested functions.HasValue vs h = (Some _, refl)
list_tested f vs h = absurd cc

negated : (f : Function) (r : Found) → OneTruth r → IsTrue (is_negation f) → OneTruth (r >>= λ vs. function_result f vs)
negated functions.Not r (p, e) h =
    (kleene_not p, ap (λ (q : Found). q >>= (λ vs. (truth_of vs >>= λ p. Ok (answer (kleene_not p))))) e ∙ rw (truth_answered p) refl)
negated f r p h = absurd cc

of_type_fine : (w : World) (f : TypeTest) (t : List ℕ) (vs : List Plain) → IsTrue (is_of_type f) → Fine (type_test_result w.schema f t vs)
of_type_fine w tests.OfType t vs h = fine _
of_type_fine w f t vs h = absurd cc

-- ---- operators

equality_truth : (w : World) (op : Operator) (vs us : List Plain) → IsTrue (is_equality op) → OneTruth (operator_result w.schema op vs us)
equality_truth w operators.Equal vs us h = (equality vs us, refl)
equality_truth w operators.NotEqual vs us h = (kleene_not (equality vs us), refl)
equality_truth w op vs us h = absurd cc

lists_joined : (w : World) (op : Operator) (vs us : List Plain) → IsTrue (joins_lists op) → Fine (operator_result w.schema op vs us)
lists_joined w operators.Union vs us h = fine _
lists_joined w operators.Intersect vs us h = fine _
lists_joined w op vs us h = absurd cc

of_both : (f : Kleene → Kleene → Kleene) (r s : Found) → OneTruth r → OneTruth s → OneTruth (r >>= λ vs. (s >>= λ ws. of_truths f vs ws))
of_both f r s (p, d) (q, e) = (f p q, rw (d, e) (rw (truth_answered p, truth_answered q) refl))

truths_joined : (w : World) (op : Operator) (q r : Found) → OneTruth q → OneTruth r → IsTrue (joins_truths op)
    → OneTruth (q >>= λ vs. (r >>= λ us. operator_result w.schema op vs us))
truths_joined w operators.And q r m n h = of_both kleene_and q r m n
truths_joined w operators.Or q r m n h = of_both kleene_or q r m n
truths_joined w operators.Xor q r m n h = of_both kleene_xor q r m n
truths_joined w operators.Implies q r m n h = of_both kleene_implies q r m n
truths_joined w op q r m n h = absurd cc

-- ---- what is evaluated for each value

criteria_fine : (c : Plain → Found) → ((x : Plain) → OneTruth (c x)) → (v : Plain) → Fine (criteria_hold c v)
criteria_fine c h v =
    let p = h v in
    let r : criteria_hold c v ≡ Ok (is_yes p.0) = rw (p.1, truth_answered p.0) refl in (is_yes p.0, r)

where_fine : (c : Plain → Found) → ((x : Plain) → OneTruth (c x)) → (vs : List Plain) → Fine (values_where c vs)
unfolding values_where
where_fine c h [] = fine _
where_fine c h (v ∷ vs) = then (criteria_hold c v) _ (criteria_fine c h v) (λ b. then (values_where c vs) _ (where_fine c h vs) (λ ws. fine _))

filter_truth : (f : Filter) (vs ws : List Plain) → IsTrue (not (is_where f)) → (p : Kleene) × (filtered_by f vs ws ≡ answer p)
filter_truth filters.Where vs ws h = absurd cc
filter_truth filters.Exists vs ws h = (Some _, refl)
filter_truth filters.All vs ws h = (Some _, refl)

-- ---- expressions

mutual
  unfolding den

  result_of : (e : Expression) → IsTrue (is_total e) → (w : World) (x : Plain) → Fine (den w e x)
  result_of nothing h w x = fine _
  result_of (boolean b) h w x = fine _
  result_of (number s) h w x = fine _
  result_of (text s) h w x = fine _
  result_of this h w x = fine _
  result_of resource h w x = fine _
  result_of context h w x = fine _
  result_of (name n) h w x = fine _
  result_of (child a n) h w x = then (den w a x) _ (result_of a h w x) (λ vs. fine _)
  result_of (call f a) h w x =
      let p = and_parts (takes_lists f) _ h in
      then (den w a x) _ (result_of a p.1 w x) (λ vs. list_taken f vs p.0)
  result_of (typed f a t) h w x =
      let p = and_parts (is_of_type f) _ h in
      then (den w a x) _ (result_of a p.1 w x) (λ vs. of_type_fine w f t vs p.0)
  result_of (filtered f a c) h w x =
      let p = and_parts (is_where f) _ h in
      let q = and_parts (is_total a) _ p.1 in
      then (den w a x) _ (result_of a q.0 w x) (λ vs. then (values_where (den w c) vs) _ (where_fine (den w c) (truth_found c q.1 w) vs) (λ ws. fine _))
  result_of (binary op a b) h w x =
      let p = and_parts (joins_lists op) _ h in
      let q = and_parts (is_total a) _ p.1 in
      then (den w a x) _ (result_of a q.0 w x) (λ vs. then (den w b x) _ (result_of b q.1 w x) (λ ws. lists_joined w op vs ws p.0))

  truth_found : (e : Expression) → IsTrue (is_total_truth e) → (w : World) (x : Plain) → OneTruth (den w e x)
  truth_found (boolean b) h w x = (Some b, refl)
  truth_found (call f a) h w x =
      elim (or_cases (tests_lists f && is_total a) _ h) [
        | inl k ↦ let p = and_parts (tests_lists f) _ k in then_truth (den w a x) _ (result_of a p.1 w x) (λ vs. list_tested f vs p.0)
        | inr k ↦ let p = and_parts (is_negation f) _ k in negated f (den w a x) (truth_found a p.1 w x) p.0
      ]
  truth_found (filtered f a c) h w x =
      let p = and_parts (not (is_where f)) _ h in
      let q = and_parts (is_total a) _ p.1 in
      then_truth (den w a x) _ (result_of a q.0 w x) (λ vs. then_truth (values_where (den w c) vs) _ (where_fine (den w c) (truth_found c q.1 w) vs) (λ ws.
      let y = filter_truth f vs ws p.0 in (y.0, ap (λ (us : List Plain). Ok us) y.1)))
  truth_found (binary op a b) h w x =
      elim (or_cases (is_equality op && (is_total a && is_total b)) _ h) [
        | inl k ↦
            let p = and_parts (is_equality op) _ k in
            let q = and_parts (is_total a) _ p.1 in
            then_truth (den w a x) _ (result_of a q.0 w x) (λ vs. then_truth (den w b x) _ (result_of b q.1 w x) (λ ws. equality_truth w op vs ws p.0))
        | inr k ↦
            let p = and_parts (joins_truths op) _ k in
            let q = and_parts (is_total_truth a) _ p.1 in
            truths_joined w op (den w a x) (den w b x) (truth_found a q.0 w x) (truth_found b q.1 w x) p.0
      ]
  truth_found e h w x = absurd cc

pub has_result : (w : World) (e : Expression) (x : Plain) → IsTrue (is_total e) → HasResult w e x
has_result w e x h = result_of e h w x

pub has_truth : (w : World) (e : Expression) (x : Plain) → IsTrue (is_total_truth e) → HasTruth w e x
has_truth w e x h = let p = truth_found e h w x in (p.0, ap (λ (r : Found). r >>= truth_of) p.1 ∙ truth_answered p.0)
