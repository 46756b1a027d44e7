-- An expression of another form is not the same.
use Rattle.std.proofs.Common.{◌≡◌, Bool, false, refl, sym, ap, ◌∙◌, rules, Box, Global, String}
use Rattle.std.specs.Prelude.{string_bytes}
use Rattle.fhir_fp_syntax.specs.declared.expr.Operator.{Operator}
use Rattle.fhir_fp_syntax.specs.declared.expr.Function.{Function}
use Rattle.fhir_fp_syntax.specs.declared.expr.Filter.{Filter}
use Rattle.fhir_fp_syntax.specs.declared.expr.TypeTest.{TypeTest}
use Rattle.fhir_fp_syntax.specs.declared.expr.Expr.{Expr, fold-roll-Expr, Empty, Boolean, Number, Text, This, Resource, Context, Name, Child, Call, Typed, Filtered, Binary, Child', Call', Typed', Filtered', Binary'}
use Rattle.fhir_fp_syntax.specs.declared.expr.Expr.TheVariants as variants
use Rattle.fhir_fp_syntax.specs.Expression.{Expression, nothing, boolean, number, text, this, resource, context, name, child, call, typed, filtered, binary, expression_of}
use Rattle.fhir_entail.specs.Same.{same_expression}

-- the expression, its outermost form first
abbrev pub outer : Expr → Expression
outer Empty = nothing
outer (Boolean b) = boolean b
outer (Number s) = number (string_bytes s)
outer (Text s) = text (string_bytes s)
outer This = this
outer Resource = resource
outer Context = context
outer (Name s) = name (string_bytes s)
outer (Child' p a s) = child (expression_of a) (string_bytes s)
outer (Call' f p a) = call f (expression_of a)
outer (Typed' f p a s) = typed f (expression_of a) (string_bytes s)
outer (Filtered' f p a q b) = filtered f (expression_of a) (expression_of b)
outer (Binary' f p a q b) = binary f (expression_of a) (expression_of b)

abbrev boxed : Box (Unit {0}) Global → Expr → Box Expr Global
boxed p e = record { ptr = p.ptr; alloc = p.alloc; value = e }

pub outer_is : (e : Expr) → expression_of e ≡ outer e
outer_is Empty = ap expression_of (sym variants.rolls-Empty) ∙ search (rules, fold-roll-Expr)
outer_is (Boolean b) = ap expression_of (sym (variants.rolls-Boolean b)) ∙ search (rules, fold-roll-Expr)
outer_is (Number s) = ap expression_of (sym (variants.rolls-Number s)) ∙ search (rules, fold-roll-Expr)
outer_is (Text s) = ap expression_of (sym (variants.rolls-Text s)) ∙ search (rules, fold-roll-Expr)
outer_is This = ap expression_of (sym variants.rolls-This) ∙ search (rules, fold-roll-Expr)
outer_is Resource = ap expression_of (sym variants.rolls-Resource) ∙ search (rules, fold-roll-Expr)
outer_is Context = ap expression_of (sym variants.rolls-Context) ∙ search (rules, fold-roll-Expr)
outer_is (Name s) = ap expression_of (sym (variants.rolls-Name s)) ∙ search (rules, fold-roll-Expr)
outer_is (Child' p a s) = ap expression_of (sym (variants.rolls-Child (boxed p a) s)) ∙ search (rules, fold-roll-Expr)
outer_is (Call' f p a) = ap expression_of (sym (variants.rolls-Call f (boxed p a))) ∙ search (rules, fold-roll-Expr)
outer_is (Typed' f p a s) = ap expression_of (sym (variants.rolls-Typed f (boxed p a) s)) ∙ search (rules, fold-roll-Expr)
outer_is (Filtered' f p a q b) = ap expression_of (sym (variants.rolls-Filtered f (boxed p a) (boxed q b))) ∙ search (rules, fold-roll-Expr)
outer_is (Binary' f p a q b) = ap expression_of (sym (variants.rolls-Binary f (boxed p a) (boxed q b))) ∙ search (rules, fold-roll-Expr)

pub as_seen : (d e : Expr) → same_expression (outer d) (outer e) ≡ same_expression (expression_of d) (expression_of e)
as_seen d e = rw (outer_is d, outer_is e) refl

abbrev Differ : Expr → Expr → Type 0
Differ d e = false ≡ same_expression (outer d) (outer e)

pub unlike_boolean : (b : Bool) (e : Expr) → ((b : Bool) → e ≡ Boolean b → ⊥) → Differ (Boolean b) e
unlike_boolean b (Boolean c) h = absurd (h c refl)
unlike_boolean b e h = refl

pub unlike_number : (s : String Global) (e : Expr) → ((s : String Global) → e ≡ Number s → ⊥) → Differ (Number s) e
unlike_number s (Number t) h = absurd (h t refl)
unlike_number s e h = refl

pub unlike_text : (s : String Global) (e : Expr) → ((s : String Global) → e ≡ Text s → ⊥) → Differ (Text s) e
unlike_text s (Text t) h = absurd (h t refl)
unlike_text s e h = refl

pub unlike_name : (s : String Global) (e : Expr) → ((s : String Global) → e ≡ Name s → ⊥) → Differ (Name s) e
unlike_name s (Name t) h = absurd (h t refl)
unlike_name s e h = refl

pub unlike_child : (a : Box Expr Global) (s : String Global) (e : Expr)
    → ((a : Box Expr Global) (s : String Global) → e ≡ Child a s → ⊥) → Differ (Child a s) e
unlike_child a s (Child' p c t) h = absurd (h (boxed p c) t refl)
unlike_child a s e h = refl

pub unlike_call : (f : Function) (a : Box Expr Global) (e : Expr)
    → ((f : Function) (a : Box Expr Global) → e ≡ Call f a → ⊥) → Differ (Call f a) e
unlike_call f a (Call' g p c) h = absurd (h g (boxed p c) refl)
unlike_call f a e h = refl

pub unlike_typed : (f : TypeTest) (a : Box Expr Global) (s : String Global) (e : Expr)
    → ((f : TypeTest) (a : Box Expr Global) (s : String Global) → e ≡ Typed f a s → ⊥) → Differ (Typed f a s) e
unlike_typed f a s (Typed' g p c t) h = absurd (h g (boxed p c) t refl)
unlike_typed f a s e h = refl

pub unlike_filtered : (f : Filter) (a b : Box Expr Global) (e : Expr)
    → ((f : Filter) (a b : Box Expr Global) → e ≡ Filtered f a b → ⊥) → Differ (Filtered f a b) e
unlike_filtered f a b (Filtered' g p c q d) h = absurd (h g (boxed p c) (boxed q d) refl)
unlike_filtered f a b e h = refl

pub unlike_binary : (f : Operator) (a b : Box Expr Global) (e : Expr)
    → ((f : Operator) (a b : Box Expr Global) → e ≡ Binary f a b → ⊥) → Differ (Binary f a b) e
unlike_binary f a b (Binary' g p c q d) h = absurd (h g (boxed p c) (boxed q d) refl)
unlike_binary f a b e h = refl
