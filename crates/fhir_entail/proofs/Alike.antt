-- Expressions that are the same are equal.
use Rattle.std.proofs.Common.{◌≡◌, ℕ, Bool, true, false, ◌&&◌, List, IsTrue, refl, ap, subst, eq-eqb}
use Rattle.std.specs.Prelude.{◌↔◌, nat_eq}
use Rattle.std.specs.Str.{bytes_eq}
use Rattle.std.proofs.lemmas.Bool.{and_parts, and_from}
use Rattle.std.proofs.lemmas.Slice.Eq.{bytes_eq-Decides}
use Rattle.fhir_fp_syntax.specs.declared.expr.Operator.{Operator}
use Rattle.fhir_fp_syntax.specs.declared.expr.Operator.TheVariants as operators
use Rattle.fhir_fp_syntax.specs.declared.expr.Function.{Function}
use Rattle.fhir_fp_syntax.specs.declared.expr.Function.TheVariants as functions
use Rattle.fhir_fp_syntax.specs.declared.expr.Filter.{Filter}
use Rattle.fhir_fp_syntax.specs.declared.expr.Filter.TheVariants as filters
use Rattle.fhir_fp_syntax.specs.declared.expr.TypeTest.{TypeTest}
use Rattle.fhir_fp_syntax.specs.declared.expr.TypeTest.TheVariants as tests
use Rattle.fhir_fp_syntax.specs.Expression.{Expression, nothing, boolean, number, text, this, resource, context, name, child, call, typed, filtered, binary}
use Rattle.fhir_entail.specs.Same.{operator_number, function_number, filter_number, test_number, same_operator, same_function, same_filter, same_test, same_boolean, same_expression}

-- ---- what is the same is equal

pub one_operator : (f g : Operator) → IsTrue (same_operator f g) → f ≡ g
one_operator operators.Index operators.Index h = refl
one_operator operators.Intersect operators.Intersect h = refl
one_operator operators.Union operators.Union h = refl
one_operator operators.Less operators.Less h = refl
one_operator operators.LessOrEqual operators.LessOrEqual h = refl
one_operator operators.Greater operators.Greater h = refl
one_operator operators.GreaterOrEqual operators.GreaterOrEqual h = refl
one_operator operators.Equal operators.Equal h = refl
one_operator operators.NotEqual operators.NotEqual h = refl
one_operator operators.In operators.In h = refl
one_operator operators.Contains operators.Contains h = refl
one_operator operators.And operators.And h = refl
one_operator operators.Or operators.Or h = refl
one_operator operators.Xor operators.Xor h = refl
one_operator operators.Implies operators.Implies h = refl
one_operator f g h = absurd cc

pub one_function : (f g : Function) → IsTrue (same_function f g) → f ≡ g
one_function functions.Exists functions.Exists h = refl
one_function functions.Empty functions.Empty h = refl
one_function functions.Count functions.Count h = refl
one_function functions.First functions.First h = refl
one_function functions.Children functions.Children h = refl
one_function functions.Descendants functions.Descendants h = refl
one_function functions.Not functions.Not h = refl
one_function functions.HasValue functions.HasValue h = refl
one_function f g h = absurd cc

pub one_filter : (f g : Filter) → IsTrue (same_filter f g) → f ≡ g
one_filter filters.Where filters.Where h = refl
one_filter filters.Exists filters.Exists h = refl
one_filter filters.All filters.All h = refl
one_filter f g h = absurd cc

pub one_test : (f g : TypeTest) → IsTrue (same_test f g) → f ≡ g
one_test tests.OfType tests.OfType h = refl
one_test tests.Is tests.Is h = refl
one_test tests.As tests.As h = refl
one_test f g h = absurd cc

one_boolean : (a b : Bool) → IsTrue (same_boolean a b) → a ≡ b
one_boolean true true h = refl
one_boolean false false h = refl
one_boolean true false h = absurd cc
one_boolean false true h = absurd cc

one_text : (s t : List ℕ) → IsTrue (bytes_eq s t) → s ≡ t
one_text s t h = (bytes_eq-Decides s t).0 h

pub one : (e f : Expression) → IsTrue (same_expression e f) → e ≡ f
one nothing nothing h = refl
one (boolean a) (boolean b) h = ap boolean (one_boolean a b h)
one (number s) (number t) h = ap number (one_text s t h)
one (text s) (text t) h = ap text (one_text s t h)
one this this h = refl
one resource resource h = refl
one context context h = refl
one (name m) (name n) h = ap name (one_text m n h)
one (child a m) (child b n) h =
    let p = and_parts (bytes_eq m n) (same_expression a b) h in
    let i : m ≡ n = one_text m n p.0 in
    let j : a ≡ b = one a b p.1 in cc
one (call f a) (call g b) h =
    let p = and_parts (same_function f g) (same_expression a b) h in
    let i : f ≡ g = one_function f g p.0 in
    let j : a ≡ b = one a b p.1 in cc
one (typed f a s) (typed g b t) h =
    let p = and_parts (same_test f g) (bytes_eq s t && same_expression a b) h in
    let q = and_parts (bytes_eq s t) (same_expression a b) p.1 in
    let i : f ≡ g = one_test f g p.0 in
    let j : s ≡ t = one_text s t q.0 in
    let k : a ≡ b = one a b q.1 in cc
one (filtered f a c) (filtered g b d) h =
    let p = and_parts (same_filter f g) (same_expression a b && same_expression c d) h in
    let q = and_parts (same_expression a b) (same_expression c d) p.1 in
    let i : f ≡ g = one_filter f g p.0 in
    let j : a ≡ b = one a b q.0 in
    let k : c ≡ d = one c d q.1 in cc
one (binary f a c) (binary g b d) h =
    let p = and_parts (same_operator f g) (same_expression a b && same_expression c d) h in
    let q = and_parts (same_expression a b) (same_expression c d) p.1 in
    let i : f ≡ g = one_operator f g p.0 in
    let j : a ≡ b = one a b q.0 in
    let k : c ≡ d = one c d q.1 in cc
one e f h = absurd cc

-- ---- each is the same as itself

itself_text : (s : List ℕ) → IsTrue (bytes_eq s s)
itself_text s = (bytes_eq-Decides s s).1 refl

itself_number : (n : ℕ) → IsTrue (nat_eq n n)
itself_number n = eq-eqb n n refl

itself_boolean : (a : Bool) → IsTrue (same_boolean a a)
itself_boolean true = refl
itself_boolean false = refl

pub itself : (e : Expression) → IsTrue (same_expression e e)
itself nothing = refl
itself (boolean a) = itself_boolean a
itself (number s) = itself_text s
itself (text s) = itself_text s
itself this = refl
itself resource = refl
itself context = refl
itself (name n) = itself_text n
itself (child a n) = and_from (bytes_eq n n) _ (itself_text n) (itself a)
itself (call f a) = and_from (same_function f f) _ (itself_number (function_number f)) (itself a)
itself (typed f a s) =
    and_from (same_test f f) _ (itself_number (test_number f)) (and_from (bytes_eq s s) _ (itself_text s) (itself a))
itself (filtered f a c) =
    and_from (same_filter f f) _ (itself_number (filter_number f)) (and_from (same_expression a a) _ (itself a) (itself c))
itself (binary f a c) =
    and_from (same_operator f f) _ (itself_number (operator_number f)) (and_from (same_expression a a) _ (itself a) (itself c))

pub one_or_other : (e f : Expression) → IsTrue (same_expression e f) ↔ (e ≡ f)
one_or_other e f = (one e f, λ h. subst (λ (g : Expression). IsTrue (same_expression e g)) h (itself e))
