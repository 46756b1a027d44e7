-- The rows of operators.
use Rattle.std.proofs.Common.{◌≡◌, ◌+◌, true, refl}
use Rattle.std.proofs.lemmas.Bool.{false≢true}
use Rattle.fhir_fp_syntax.specs.declared.expr.Operator.{Operator}
use Rattle.fhir_fp_syntax.specs.declared.expr.Operator.TheVariants.{Index, Intersect, Union, Less, LessOrEqual, Greater, GreaterOrEqual, Equal, NotEqual, In, Contains, And, Or, Xor, Implies}
use Rattle.fhir_fp_syntax.specs.Words.{looseness_of_operator}
use Rattle.fhirpath_laws.specs.Precedence.{is_infix, row_of}

pub by_row : (op : Operator) → is_infix op ≡ true → looseness_of_operator op + 4 ≡ row_of op
by_row Index h = absurd (false≢true h)
by_row Intersect h = absurd (false≢true h)
by_row Union h = refl
by_row Less h = refl
by_row LessOrEqual h = refl
by_row Greater h = refl
by_row GreaterOrEqual h = refl
by_row Equal h = refl
by_row NotEqual h = refl
by_row In h = refl
by_row Contains h = refl
by_row And h = refl
by_row Or h = refl
by_row Xor h = refl
by_row Implies h = refl
