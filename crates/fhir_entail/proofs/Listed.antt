-- What is listed among expressions.
use Rattle.std.proofs.Common.{◌≡◌, Bool, true, false, ◌||◌, ◌&&◌, List, [], ◌∷◌, map, IsTrue, refl, sym, ap, subst, inl, inr}
use Rattle.std.specs.Borrow.{Bor}
use Rattle.std.specs.List.{list_any}
use Rattle.std.proofs.lemmas.Bool.{or_cases, or_left, or_right, and_from, false≢true}
use Rattle.fhir_fp_syntax.specs.declared.expr.Expr.{Expr}
use Rattle.fhir_fp_syntax.specs.declared.expr.Operator.TheVariants.{And, Or, Implies}
use Rattle.fhir_fp_syntax.specs.Expression.{Expression, binary, expression_of}
use Rattle.fhir_entail.specs.Same.{same_expression}
use Rattle.fhir_entail.specs.Entailment.{is_part, is_listed, entails}
use Rattle.fhir_entail.proofs.Alike.{one_or_other}

pub listed_seen : (e : Expression) (known : List (Bor Expr))
    → list_any (λ k. is_part e (expression_of k.now)) known ≡ is_listed (map (λ k. expression_of k.now) known) e
listed_seen e [] = refl
listed_seen e (k ∷ known) = ap (λ (b : Bool). is_part e (expression_of k.now) || b) (listed_seen e known)

either : (a b : Bool) → IsTrue a → IsTrue (a || b)
either a b h = ap (λ (c : Bool). c || b) h

pub listed_entailed : (known : List Expression) (e : Expression) → IsTrue (is_listed known e) → IsTrue (entails known e)
listed_entailed known (binary And a b) h = either (is_listed known (binary And a b)) _ h
listed_entailed known (binary Or a b) h = either (is_listed known (binary Or a b)) _ h
listed_entailed known (binary Implies a b) h = either (is_listed known (binary Implies a b)) _ h
listed_entailed known e h = h

-- ---- where an `and` is listed, so is each side

pub itself_part : (e : Expression) → IsTrue (is_part e e)
itself_part (binary And a b) = or_left (same_expression (binary And a b) (binary And a b)) _ ((one_or_other (binary And a b) (binary And a b)).1 refl)
itself_part e = (one_or_other e e).1 refl

module _ (a b : Expression) where
  left_part : IsTrue (is_part a (binary And a b))
  left_part = or_right (same_expression (binary And a b) a) _ (or_left (is_part a a) (is_part a b) (itself_part a))

  right_part : IsTrue (is_part b (binary And a b))
  right_part = or_right (same_expression (binary And a b) b) _ (or_right (is_part b a) (is_part b b) (itself_part b))

  both_parts : (f : Expression) → f ≡ binary And a b → IsTrue (is_part a f) × IsTrue (is_part b f)
  both_parts f e = (subst (λ g. IsTrue (is_part a g)) (sym e) left_part, subst (λ g. IsTrue (is_part b g)) (sym e) right_part)

  sides_part : (f : Expression) → IsTrue (is_part (binary And a b) f) → IsTrue (is_part a f) × IsTrue (is_part b f)
  sides_part (binary And c d) h =
      elim (or_cases (same_expression (binary And c d) (binary And a b)) _ h) [
        | inl same ↦ both_parts (binary And c d) ((one_or_other (binary And c d) (binary And a b)).0 same)
        | inr inner ↦
            elim (or_cases (is_part (binary And a b) c) (is_part (binary And a b) d) inner) [
              | inl left ↦
                  let p = sides_part c left in (
                    or_right (same_expression (binary And c d) a) _ (or_left (is_part a c) (is_part a d) p.0),
                    or_right (same_expression (binary And c d) b) _ (or_left (is_part b c) (is_part b d) p.1),
                  )
              | inr right ↦
                  let p = sides_part d right in (
                    or_right (same_expression (binary And c d) a) _ (or_right (is_part a c) (is_part a d) p.0),
                    or_right (same_expression (binary And c d) b) _ (or_right (is_part b c) (is_part b d) p.1),
                  )
            ]
      ]
  sides_part f h = both_parts f ((one_or_other f (binary And a b)).0 h)

  sides_listed : (known : List Expression) → IsTrue (is_listed known (binary And a b)) → IsTrue (is_listed known a) × IsTrue (is_listed known b)
  sides_listed [] h = absurd (false≢true h)
  sides_listed (f ∷ known) h =
      elim (or_cases (is_part (binary And a b) f) (is_listed known (binary And a b)) h) [
        | inl here ↦
            let p = sides_part f here in
            (or_left (is_part a f) (is_listed known a) p.0, or_left (is_part b f) (is_listed known b) p.1)
        | inr there ↦
            let p = sides_listed known there in
            (or_right (is_part a f) (is_listed known a) p.0, or_right (is_part b f) (is_listed known b) p.1)
      ]

  -- so each side alone says whether an `and` is entailed
  pub and_alone : (known : List Expression) → (entails known a && entails known b) ≡ entails known (binary And a b)
  and_alone known = go (is_listed known (binary And a b)) refl
    where
      go : (l : Bool) → is_listed known (binary And a b) ≡ l → (entails known a && entails known b) ≡ (l || (entails known a && entails known b))
      go true is =
          let p = sides_listed known is in
          and_from (entails known a) (entails known b) (listed_entailed known a p.0) (listed_entailed known b p.1)
      go false is = refl
