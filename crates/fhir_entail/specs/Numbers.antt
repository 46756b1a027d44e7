-- Numbers of expressions (used by private contracts alone). An expression has the number of its shape, in which its parts stand as
-- their numbers.
use Rattle.std.specs.Prelude.{◌≡◌, ◌<◌, ℕ, [], Bool, Option, Some, option_map, if◌then◌else◌}
use Rattle.std.specs.BTreeMap.{BTreeMap, get, btree_map_len}
use Rattle.std.specs.Option.{option_and_then}
use Rattle.fhir_json.specs.Tree.{Text}
use Rattle.fhir_fp_syntax.specs.Expression.{Expression, nothing, boolean, number, text, this, resource, context, name, child, call, typed, filtered, binary}
use Rattle.fhir_entail.specs.Same.{operator_number, function_number, filter_number, test_number}
use Rattle.fhir_entail.specs.declared.numbers.Form.{Form}
use Rattle.fhir_entail.specs.declared.numbers.Form.TheVariants as forms
use Rattle.fhir_entail.specs.declared.numbers.Shape.{Shape}
use Rattle.fhir_entail.specs.contracts.numbers.ShapeOrd.TheImpl.{cmp-value}

-- ---- the outermost form of an expression: which it is, with which boolean, operator, function or test, and with which text

abbrev pub form_of : Expression → Form
form_of nothing = forms.Empty
form_of (boolean b) = forms.Boolean
form_of (number s) = forms.Number
form_of (text s) = forms.Text
form_of this = forms.This
form_of resource = forms.Resource
form_of context = forms.Context
form_of (name s) = forms.Name
form_of (child a s) = forms.Child
form_of (call f a) = forms.Call
form_of (typed f a s) = forms.Typed
form_of (filtered f a b) = forms.Filtered
form_of (binary f a b) = forms.Binary

abbrev pub boolean_number : Bool → ℕ
boolean_number b = if b then 1 else 0

abbrev pub word_of : Expression → ℕ
word_of (boolean b) = boolean_number b
word_of (call f a) = function_number f
word_of (typed f a s) = test_number f
word_of (filtered f a b) = filter_number f
word_of (binary f a b) = operator_number f
word_of e = 0

abbrev pub text_of : Expression → Text
text_of (number s) = s
text_of (text s) = s
text_of (name s) = s
text_of (child a s) = s
text_of (typed f a s) = s
text_of e = []

-- ---- shapes

-- the shape of an expression whose parts have these numbers
abbrev pub shape_of : Expression → ℕ × ℕ → Shape
shape_of e parts =
    record { form = form_of e; word = word_of e; text = record { ref_ptr = (0, 0); now = text_of e }; first = parts.0; second = parts.1 }

-- without where its text lies in memory
abbrev pub seen : Shape → Shape
seen s = record { form = s.form; word = s.word; text = record { ref_ptr = (0, 0); now = s.text.now }; first = s.first; second = s.second }

abbrev pub Shapes : Type 0
Shapes = BTreeMap Shape ℕ

abbrev pub number_at : Shapes → Shape → Option ℕ
number_at m s = get cmp-value.it m s

-- ---- numbers

abbrev pub number_by : Shapes → Expression → Option (ℕ × ℕ) → Option ℕ
number_by m e parts = option_and_then (λ p. number_at m (shape_of e p)) parts

-- the numbers of an expression's parts, which are 0 where there are none
abbrev pub parts_in : Shapes → Expression → Option (ℕ × ℕ)
parts_in m (child a s) = option_map (λ i. (i, 0)) (number_by m a (parts_in m a))
parts_in m (call f a) = option_map (λ i. (i, 0)) (number_by m a (parts_in m a))
parts_in m (typed f a s) = option_map (λ i. (i, 0)) (number_by m a (parts_in m a))
parts_in m (filtered f a b) =
    option_and_then (λ i. option_map (λ j. (i, j)) (number_by m b (parts_in m b))) (number_by m a (parts_in m a))
parts_in m (binary f a b) =
    option_and_then (λ i. option_map (λ j. (i, j)) (number_by m b (parts_in m b))) (number_by m a (parts_in m a))
parts_in m e = Some (0, 0)

abbrev pub number_in : Shapes → Expression → Option ℕ
number_in m e = number_by m e (parts_in m e)

-- what has a number in the first has it in the second
abbrev pub Extends : Shapes → Shapes → Type 0
Extends m n = (s : Shape) (k : ℕ) → number_at m s ≡ Some k → number_at n s ≡ Some k

-- each number is that of one shape, and below the number of shapes
pub record AreApart (m : Shapes) : Type 0 where
  pub below : (s : Shape) (k : ℕ) → number_at m s ≡ Some k → k < btree_map_len m
  pub one : (s t : Shape) (k : ℕ) → number_at m s ≡ Some k → number_at m t ≡ Some k → seen s ≡ seen t
