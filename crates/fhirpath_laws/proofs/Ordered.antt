-- What the four operators of order give.
use Rattle.std.proofs.Common.{◌≡◌, true, List, [], ◌∷◌, None, Ok, Err, refl}
use Rattle.std.proofs.lemmas.Bool.{false≢true}
use Rattle.fhir_fp_syntax.specs.Expression.{Expression, binary}
use Rattle.fhir_fp_syntax.specs.declared.expr.Operator.{Operator}
use Rattle.fhir_fp_syntax.specs.declared.expr.Operator.TheVariants.{Less, LessOrEqual, Greater, GreaterOrEqual}
use Rattle.fhir_fp_values.specs.declared.fault.EvalFault.TheVariants.{Several}
use Rattle.fhir_fp_values.specs.Values.{Plain}
use Rattle.fhir_fp_eval.specs.Worlds.{World}
use Rattle.fhir_fp_values.specs.Comparing.{order_of}
use Rattle.fhir_fp_eval.specs.Meaning.{den}
use Rattle.fhirpath_laws.specs.Comparing.{is_comparison}

module _ (w : World) where
  pub no_order : (op : Operator) (a b : Expression) (x v u : Plain) → is_comparison op ≡ true → den w a x ≡ Ok (v ∷ []) → den w b x ≡ Ok (u ∷ [])
      → order_of w.schema v u ≡ Ok None → den w (binary op a b) x ≡ Ok []
  unfolding den
  no_order Less a b x v u is h k o = rw (h, k, o) refl
  no_order LessOrEqual a b x v u is h k o = rw (h, k, o) refl
  no_order Greater a b x v u is h k o = rw (h, k, o) refl
  no_order GreaterOrEqual a b x v u is h k o = rw (h, k, o) refl
  no_order _ a b x v u is h k o = absurd (false≢true is)

  pub none_before : (op : Operator) (a b : Expression) (x : Plain) (us : List Plain) → is_comparison op ≡ true
      → den w a x ≡ Ok [] → den w b x ≡ Ok us → den w (binary op a b) x ≡ Ok []
  unfolding den
  none_before Less a b x us is h k = rw (h, k) refl
  none_before LessOrEqual a b x us is h k = rw (h, k) refl
  none_before Greater a b x us is h k = rw (h, k) refl
  none_before GreaterOrEqual a b x us is h k = rw (h, k) refl
  none_before _ a b x us is h k = absurd (false≢true is)

  pub none_behind : (op : Operator) (a b : Expression) (x : Plain) (vs : List Plain) → is_comparison op ≡ true
      → den w a x ≡ Ok vs → den w b x ≡ Ok [] → den w (binary op a b) x ≡ Ok []
  unfolding den
  none_behind Less a b x [] is h k = rw (h, k) refl
  none_behind Less a b x (v ∷ vs) is h k = rw (h, k) refl
  none_behind LessOrEqual a b x [] is h k = rw (h, k) refl
  none_behind LessOrEqual a b x (v ∷ vs) is h k = rw (h, k) refl
  none_behind Greater a b x [] is h k = rw (h, k) refl
  none_behind Greater a b x (v ∷ vs) is h k = rw (h, k) refl
  none_behind GreaterOrEqual a b x [] is h k = rw (h, k) refl
  none_behind GreaterOrEqual a b x (v ∷ vs) is h k = rw (h, k) refl
  none_behind _ a b x vs is h k = absurd (false≢true is)

  pub several_before : (op : Operator) (a b : Expression) (x v y u : Plain) (vs us : List Plain) → is_comparison op ≡ true
      → den w a x ≡ Ok (v ∷ y ∷ vs) → den w b x ≡ Ok (u ∷ us) → den w (binary op a b) x ≡ Err Several
  unfolding den
  several_before Less a b x v y u vs us is h k = rw (h, k) refl
  several_before LessOrEqual a b x v y u vs us is h k = rw (h, k) refl
  several_before Greater a b x v y u vs us is h k = rw (h, k) refl
  several_before GreaterOrEqual a b x v y u vs us is h k = rw (h, k) refl
  several_before _ a b x v y u vs us is h k = absurd (false≢true is)

  pub several_behind : (op : Operator) (a b : Expression) (x v u y : Plain) (us : List Plain) → is_comparison op ≡ true
      → den w a x ≡ Ok (v ∷ []) → den w b x ≡ Ok (u ∷ y ∷ us) → den w (binary op a b) x ≡ Err Several
  unfolding den
  several_behind Less a b x v u y us is h k = rw (h, k) refl
  several_behind LessOrEqual a b x v u y us is h k = rw (h, k) refl
  several_behind Greater a b x v u y us is h k = rw (h, k) refl
  several_behind GreaterOrEqual a b x v u y us is h k = rw (h, k) refl
  several_behind _ a b x v u y us is h k = absurd (false≢true is)
