-- An expression, step by step along its first operands.
use Rattle.std.proofs.Common.{◌≡◌, ℕ, suc, ◌+◌, ◌<◌, ◌≤◌, Bool, true, false, List, [], ◌∷◌, ◌++◌, Option, Some, None, Ok, Err, refl, sym, ap, ◌∙◌, arith}
use Rattle.std.specs.Borrow.{Bor}
use Rattle.std.specs.Option.{option_map}
use Rattle.fhir_json.specs.Memory.{IsFault}
use Rattle.fhir_fp_syntax.specs.declared.expr.Expr.{Expr}
use Rattle.fhir_fp_syntax.specs.Expression.{Expression, nothing, boolean, this, resource, context, name, child, call, typed, filtered, binary, expression_of}
use Rattle.fhir_fp_syntax.specs.Expression as expressions
use Rattle.fhir_fp_values.specs.declared.fault.EvalFault.{EvalFault}
use Rattle.fhir_fp_values.specs.Faults.{is_no_memory}
use Rattle.fhir_fp_values.specs.Values.{Plain}
use Rattle.fhir_fp_eval.specs.Worlds.{World}
use Rattle.fhir_fp_eval.specs.Meaning.{◌>>=◌, Found, children_of, function_result, type_test_result, operator_result, values_where, filtered_by, den}
use Rattle.fhir_fp_eval.specs.Spines.{base_of, spine, made_of, steps_of}

-- ---- the steps

-- what is left to walk
abbrev pub spine_from : Option Expression → List Expression
spine_from None = []
spine_from (Some e) = spine e

pub steps_end : (es : List (Bor Expr)) (s : Bor Expr) → steps_of (es ++ s ∷ []) ≡ steps_of es ++ expression_of s.now ∷ []
steps_end [] s = refl
steps_end (e ∷ es) s = ap (λ (ds : List Expression). expression_of e.now ∷ ds) (steps_end es s)

-- ---- what the steps make of a result, from the last to the first

abbrev pub climbed : World → Plain → List Expression → Found → Found
climbed w x [] r = r
climbed w x (e ∷ es) r = climbed w x es r >>= made_of w x e

pub den_climbed : (w : World) (x : Plain) (e : Expression) → climbed w x (spine e) (Ok []) ≡ den w e x
unfolding den
den_climbed w x nothing = refl
den_climbed w x (boolean b) = refl
den_climbed w x (expressions.number s) = refl
den_climbed w x (expressions.text s) = refl
den_climbed w x this = refl
den_climbed w x resource = refl
den_climbed w x context = refl
den_climbed w x (name n) = refl
den_climbed w x (child a n) = ap (λ (r : Found). r >>= λ vs. Ok (children_of n vs)) (den_climbed w x a)
den_climbed w x (call f a) = ap (λ (r : Found). r >>= λ vs. function_result f vs) (den_climbed w x a)
den_climbed w x (typed f a t) = ap (λ (r : Found). r >>= λ vs. type_test_result w.schema f t vs) (den_climbed w x a)
den_climbed w x (filtered f a c) = ap (λ (r : Found). r >>= λ vs. (values_where (den w c) vs >>= λ ws. Ok (filtered_by f vs ws))) (den_climbed w x a)
den_climbed w x (binary op a b) = ap (λ (r : Found). r >>= λ vs. (den w b x >>= λ ws. operator_result w.schema op vs ws)) (den_climbed w x a)

pub climbed_last : (w : World) (x : Plain) (es : List Expression) (e : Expression) (r : Found) → climbed w x (es ++ e ∷ []) r ≡ climbed w x es (r >>= made_of w x e)
climbed_last w x [] e r = refl
climbed_last w x (d ∷ es) e r = ap (λ (q : Found). q >>= made_of w x d) (climbed_last w x es e r)

climbed_fault : (w : World) (x : Plain) (es : List Expression) (f : EvalFault) → climbed w x es (Err f) ≡ Err f
climbed_fault w x [] f = refl
climbed_fault w x (e ∷ es) f = ap (λ (q : Found). q >>= made_of w x e) (climbed_fault w x es f)

passed : (none : Bool) (w : World) (x : Plain) (es : List Expression) (f : EvalFault) (r : Found) → IsFault none f r → IsFault none f (climbed w x es r)
passed true w x es f r h = tt
passed false w x es f r h = ap (climbed w x es) h ∙ climbed_fault w x es f

pub started : (w : World) (x : Plain) (e : Expression) (es : List Expression) (vs : List Plain) → es ≡ spine e → vs ≡ [] → climbed w x es (Ok vs) ≡ den w e x
started w x e es vs is none = ap (λ (ds : List Expression). climbed w x ds (Ok vs)) is ∙ (ap (λ (us : List Plain). climbed w x (spine e) (Ok us)) none ∙ den_climbed w x e)

module _ (w : World) (x : Plain) (all es : List Expression) (e : Expression) (held vs : List Plain) (whole : Found) (is : all ≡ es ++ e ∷ []) (same : vs ≡ held)
    (so_far : climbed w x all (Ok held) ≡ whole) where
  opened : climbed w x es (made_of w x e vs) ≡ whole
  opened =
      ap (λ (us : List Plain). climbed w x es (made_of w x e us)) same
      ∙ (sym (climbed_last w x es e (Ok held)) ∙ (ap (λ (ds : List Expression). climbed w x ds (Ok held)) (sym is) ∙ so_far))

  pub climb_fails : (f : EvalFault) → IsFault (is_no_memory f) f (made_of w x e vs) → IsFault (is_no_memory f) f whole
  climb_fails f h = rw (← opened) (passed (is_no_memory f) w x es f (made_of w x e vs) h)

  pub climb_goes : (us : List Plain) → made_of w x e vs ≡ Ok us → climbed w x es (Ok us) ≡ whole
  climb_goes us h = ap (climbed w x es) (sym h) ∙ opened

-- ---- measures

abbrev pub size : Expression → ℕ
size (child a n) = suc (size a)
size (call f a) = suc (size a)
size (typed f a t) = suc (size a)
size (filtered f a c) = suc (size a + size c)
size (binary op a b) = suc (size a + size b)
size e = 1

-- the size of what is left to walk
abbrev pub size_from : Option Expression → ℕ
size_from None = 0
size_from (Some e) = size e

base_smaller : (e : Expression) → size_from (base_of e) < size e
base_smaller nothing = omega arith
base_smaller (boolean b) = omega arith
base_smaller (expressions.number s) = omega arith
base_smaller (expressions.text s) = omega arith
base_smaller this = omega arith
base_smaller resource = omega arith
base_smaller context = omega arith
base_smaller (name n) = omega arith
base_smaller (child a n) = omega arith
base_smaller (call f a) = omega arith
base_smaller (typed f a t) = omega arith
base_smaller (filtered f a c) = omega arith
base_smaller (binary op a b) = omega arith

pub step_smaller : (left : Option (Bor Expr)) (s : Bor Expr) (next : Option Expression) → left ≡ Some s → next ≡ base_of (expression_of s.now)
    → size_from next < size_from (option_map (λ e. expression_of e.now) left)
step_smaller left s next is down = rw (is, down) (base_smaller (expression_of s.now))

-- none of them is larger than n
abbrev pub Within : ℕ → List Expression → Type 0
Within n [] = Unit {0}
Within n (e ∷ es) = (size e ≤ n) × Within n es

pub within_spine : (n : ℕ) (e : Expression) → size e ≤ n → Within n (spine e)
within_spine n nothing h = (h, tt)
within_spine n (boolean b) h = (h, tt)
within_spine n (expressions.number s) h = (h, tt)
within_spine n (expressions.text s) h = (h, tt)
within_spine n this h = (h, tt)
within_spine n resource h = (h, tt)
within_spine n context h = (h, tt)
within_spine n (name s) h = (h, tt)
within_spine n (child a s) h = (h, within_spine n a (omega arith))
within_spine n (call f a) h = (h, within_spine n a (omega arith))
within_spine n (typed f a t) h = (h, within_spine n a (omega arith))
within_spine n (filtered f a c) h = (h, within_spine n a (omega arith))
within_spine n (binary op a b) h = (h, within_spine n a (omega arith))

pub within_last : (n : ℕ) (es : List Expression) (e : Expression) → Within n (es ++ e ∷ []) → size e ≤ n
within_last n [] e h = h.0
within_last n (d ∷ es) e h = within_last n es e h.1

pub within_front : (n : ℕ) (es : List Expression) (e : Expression) → Within n (es ++ e ∷ []) → Within n es
within_front n [] e h = tt
within_front n (d ∷ es) e h = (h.0, within_front n es e h.1)

pub all_within : (e : Expression) (es : List Expression) → es ≡ spine e → Within (size e) es
all_within e es is = rw is (within_spine (size e) e (omega arith))
