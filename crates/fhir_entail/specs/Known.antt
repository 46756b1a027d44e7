-- Expressions that are known to be true, as they are kept to be found. What is kept of an `and` is what is so of its sides.
use Rattle.std.specs.Prelude.{◌≡◌, ℕ, Bool, true, false, ◌&&◌, ◌||◌, Option, Some, List, IsTrue}
use Rattle.std.specs.BTreeSet.{contains}
use Rattle.std.specs.Option.{option_map_or}
use Rattle.std.specs.Ordering.{nat_cmp}
use Rattle.fhir_fp_syntax.specs.Expression.{Expression, binary}
use Rattle.fhir_fp_syntax.specs.declared.expr.Operator.{Operator}
use Rattle.fhir_fp_syntax.specs.declared.expr.Operator.TheVariants.{And, Or, Implies}
use Rattle.fhir_entail.specs.Total.{joins_truths, is_total_truth}
use Rattle.fhir_entail.specs.Entailment.{is_listed, entails}
use Rattle.fhir_entail.specs.Numbers.{number_in, AreApart}
use Rattle.fhir_entail.specs.declared.known.Known.{Known}
use Rattle.fhir_entail.specs.declared.known.Weighed.{Weighed}

abbrev pub is_conjunction : Operator → Bool
is_conjunction And = true
is_conjunction op = false

abbrev pub is_and : Expression → Bool
is_and (binary op a b) = is_conjunction op
is_and e = false

-- whether a number is that of an expression that is listed
abbrev pub is_kept : Known → ℕ → Bool
is_kept k n = contains nat_cmp k.listed n

-- whether an expression of that number is listed, if it has one
abbrev pub is_found : Known → Option ℕ → Bool
is_found k number = option_map_or (is_kept k) number false

-- What is kept is what is so of these expressions: each that is listed among them, and is no `and`, is found, and no other is.
pub record Knows (k : Known) (known : List Expression) : Type 0 where
  pub apart : AreApart k.numbers.shapes
  pub each : (e : Expression) → is_and e ≡ false → IsTrue (is_listed known e) → IsTrue (is_found k (number_in k.numbers.shapes e))
  pub only : (n : ℕ) → IsTrue (is_kept k n) → (e : Expression) × (number_in k.numbers.shapes e ≡ Some n) × IsTrue (is_listed known e)

-- ---- what is weighed (used by private contracts alone)

-- an `and`, `or`, `xor` or `implies`
abbrev pub is_joined : Expression → Bool
is_joined (binary op a b) = joins_truths op
is_joined e = false

-- What was found of an expression is so.
pub record Weighs (k : Known) (e : Expression) (w : Weighed) : Type 0 where
  pub number : w.number ≡ number_in k.numbers.shapes e
  pub total : w.is_total ≡ is_total_truth e
  pub entailed : (known : List Expression) → Knows k known → w.is_entailed ≡ entails known e

-- whether two truths that are joined are entailed, the whole being listed or not
abbrev pub joined_entailed : Operator → (is_listed : Bool) → Weighed → Weighed → Bool
joined_entailed And listed l r = l.is_entailed && r.is_entailed
joined_entailed Or listed l r = listed || ((l.is_entailed && r.is_total) || (r.is_entailed && l.is_total))
joined_entailed Implies listed l r = listed || (r.is_entailed && l.is_total)
joined_entailed op listed l r = listed
