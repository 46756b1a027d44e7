-- What an expression gives (FHIRPath N1).
use Rattle.std.specs.Prelude.{ℕ, suc, Bool, true, false, not, List, [], ◌∷◌, ◌++◌, ◌-◌, length, take, map, Option, Some, None, is_some, Result, Ok, Err, if◌then◌else◌, nat_eq}
use Rattle.std.specs.Option.{option_map}
use Rattle.std.specs.Str.{bytes_eq}
use Rattle.std.specs.Ordering.{is_lt, is_le, is_gt, is_ge}
use Rattle.std.specs.declared.cmp.Ordering.{Ordering}
use Rattle.fhir_json.specs.Tree.{Text}
use Rattle.fhir_decimal.specs.Value.{Value, is_same_value}
use Rattle.fhir_decimal.specs.Whole.{count, is_whole_value}
use Rattle.fhir_schema.specs.Schemas.{SchemaValue}
use Rattle.fhir_forms.specs.Forms.{is_choice}
use Rattle.fhir_schema.specs.Covers.{derives}
use Rattle.fhir_instance.specs.Items.{Item, item, Kids, no_kids, kid, type_of, kids_of}
use Rattle.fhir_fp_syntax.specs.Expression.{Expression, nothing, boolean, this, resource, context, name, child, call, typed, filtered, binary}
use Rattle.fhir_fp_syntax.specs.Expression as expressions
use Rattle.fhir_fp_syntax.specs.declared.expr.Operator.{Operator}
use Rattle.fhir_fp_syntax.specs.declared.expr.Operator.TheVariants as operators
use Rattle.fhir_fp_syntax.specs.declared.expr.Function.{Function}
use Rattle.fhir_fp_syntax.specs.declared.expr.Function.TheVariants as functions
use Rattle.fhir_fp_syntax.specs.declared.expr.Filter.{Filter}
use Rattle.fhir_fp_syntax.specs.declared.expr.Filter.TheVariants as filters
use Rattle.fhir_fp_syntax.specs.declared.expr.TypeTest.{TypeTest}
use Rattle.fhir_fp_syntax.specs.declared.expr.TypeTest.TheVariants as tests
use Rattle.fhir_fp_values.specs.declared.fault.EvalFault.{EvalFault}
use Rattle.fhir_fp_values.specs.declared.fault.EvalFault.TheVariants.{Several, Kind}
use Rattle.fhir_fp_values.specs.Values.{Plain, node, truth, number, text, SystemValue, boolean_of, number_of, item_value, system_value}
use Rattle.fhir_fp_eval.specs.Worlds.{World}
use Rattle.fhir_fp_eval.specs.Literals.{literal_value}
use Rattle.fhir_fp_values.specs.Equality.{Kleene, kleene_and, kleene_or, kleene_not, kleene_xor, kleene_implies, is_yes, has, equality}
use Rattle.fhir_fp_values.specs.Sets.{joined, shared}
use Rattle.fhir_fp_values.specs.Comparing.{Compared, order_of}

abbrev pub Found : Type 0
Found = Result (List Plain) EvalFault

-- what is made of a result; a fault stays one
infixl 10 ◌>>=◌
abbrev pub ◌>>=◌ : {A B : Type 0} → Result A EvalFault → (A → Result B EvalFault) → Result B EvalFault
(Ok x) >>= f = f x
(Err e) >>= f = Err e

-- ---- truth

-- what is no boolean is true, where a boolean is wanted (FHIRPath N1, section 4.5)
abbrev pub truth_in : Option SystemValue → Bool
truth_in (Some (boolean_of b)) = b
truth_in _ = true

abbrev pub truth_of : List Plain → Result Kleene EvalFault
truth_of [] = Ok None
truth_of (x ∷ []) = Ok (Some (truth_in (system_value x)))
truth_of (x ∷ y ∷ xs) = Err Several

abbrev pub answer : Kleene → List Plain
answer None = []
answer (Some b) = truth b ∷ []

-- ---- children

-- the name of a choice is written without `[x]` (FHIR R4, FHIRPath, polymorphism)
abbrev pub path_name : Text → Text
path_name element = if is_choice element then take (length element - 3) element else element

abbrev pub kids_named : Text → Kids → List Item
kids_named n no_kids = []
kids_named n (kid m x ks) = if bytes_eq (path_name m) n then x ∷ kids_named n ks else kids_named n ks

abbrev pub all_kids : Kids → List Item
all_kids no_kids = []
all_kids (kid n x ks) = x ∷ all_kids ks

-- each child, and then what is below it
abbrev mutual
  pub descendants : Item → List Item
  descendants (item type json ks) = descendants_in ks

  pub descendants_in : Kids → List Item
  descendants_in no_kids = []
  descendants_in (kid n x ks) = x ∷ (descendants x ++ descendants_in ks)

-- what each item has, one behind the other; plain values have nothing
abbrev pub below : (Item → List Item) → List Plain → List Plain
below f [] = []
below f (node x ∷ xs) = map node (f x) ++ below f xs
below f (x ∷ xs) = below f xs

-- a name behind a dot
abbrev pub children_of : Text → List Plain → List Plain
children_of n vs = below (λ x. kids_named n (kids_of x)) vs

-- a name at the start of a path: the focus, where that is its type or a base of it (FHIRPath N1, section 3.1)
abbrev pub starts : SchemaValue → Text → Plain → List Plain
starts s n (node x) = if derives s (type_of x) n then node x ∷ [] else children_of n (node x ∷ [])
starts s n x = []

-- ---- lists of values

abbrev pub is_empty : {A : Type 0} → List A → Bool
is_empty [] = true
is_empty (x ∷ xs) = false

abbrev pub first_of : List Plain → List Plain
first_of [] = []
first_of (x ∷ xs) = x ∷ []

-- one item that has the value of a primitive
abbrev pub has_value : List Plain → Bool
has_value (node x ∷ []) = is_some (item_value x)
has_value vs = false

-- whether the one value is in ws
abbrev pub member_of : List Plain → List Plain → Found
member_of [] ws = Ok []
member_of (v ∷ []) ws = Ok (truth (has ws v) ∷ [])
member_of (v ∷ w ∷ vs) ws = Err Several

-- the value whose place is the number, of values whose places begin at n
unfoldable pub at_from : ℕ → Value → List Plain → List Plain
at_from n v [] = []
at_from n v (x ∷ xs) = if is_same_value v (count n) then x ∷ [] else at_from (suc n) v xs

abbrev pub at_system_value : Option SystemValue → List Plain → Found
at_system_value (Some (number_of v)) vs = if is_whole_value v then Ok (at_from 0 v vs) else Err Kind
at_system_value _ vs = Err Kind

abbrev pub at_index : List Plain → List Plain → Found
at_index vs [] = Ok []
at_index vs (x ∷ []) = at_system_value (system_value x) vs
at_index vs (x ∷ y ∷ xs) = Err Several

-- one value against one other
abbrev pub order_between : SchemaValue → List Plain → List Plain → Compared
order_between s [] ws = Ok None
order_between s (v ∷ vs) [] = Ok None
order_between s (v ∷ []) (w ∷ []) = order_of s v w
order_between s (v ∷ []) (w ∷ x ∷ ws) = Err Several
order_between s (v ∷ x ∷ vs) (w ∷ ws) = Err Several

-- whether the order passes the test
abbrev pub in_order : (Ordering → Bool) → Compared → Found
in_order test r = r >>= λ o. Ok (answer (option_map test o))

-- ---- functions and operators

abbrev pub function_result : Function → List Plain → Found
function_result functions.Exists vs = Ok (truth (not (is_empty vs)) ∷ [])
function_result functions.Empty vs = Ok (truth (is_empty vs) ∷ [])
function_result functions.Count vs = Ok (number (count (length vs)) ∷ [])
function_result functions.First vs = Ok (first_of vs)
function_result functions.Children vs = Ok (below (λ x. all_kids (kids_of x)) vs)
function_result functions.Descendants vs = Ok (below descendants vs)
function_result functions.Not vs = truth_of vs >>= λ p. Ok (answer (kleene_not p))
function_result functions.HasValue vs = Ok (truth (has_value vs) ∷ [])

-- the item's type is this one, or derives from it; a plain value is of no type
abbrev pub of_type : SchemaValue → Text → Plain → Bool
of_type s t (node x) = derives s (type_of x) t
of_type s t x = false

unfoldable pub of_types : SchemaValue → Text → List Plain → List Plain
of_types s t [] = []
of_types s t (x ∷ xs) = if of_type s t x then x ∷ of_types s t xs else of_types s t xs

abbrev pub type_test_result : SchemaValue → TypeTest → Text → List Plain → Found
type_test_result s tests.OfType t vs = Ok (of_types s t vs)
type_test_result s f t [] = Ok []
type_test_result s tests.Is t (x ∷ []) = Ok (truth (of_type s t x) ∷ [])
type_test_result s tests.As t (x ∷ []) = Ok (of_types s t (x ∷ []))
type_test_result s f t (x ∷ y ∷ xs) = Err Several

abbrev pub of_truths : (Kleene → Kleene → Kleene) → List Plain → List Plain → Found
of_truths f vs ws = truth_of vs >>= λ p. (truth_of ws >>= λ q. Ok (answer (f p q)))

abbrev pub operator_result : SchemaValue → Operator → List Plain → List Plain → Found
operator_result s operators.Index vs ws = at_index vs ws
operator_result s operators.Intersect vs ws = Ok (shared ws [] vs)
operator_result s operators.Union vs ws = Ok (joined (joined [] vs) ws)
operator_result s operators.Less vs ws = in_order is_lt (order_between s vs ws)
operator_result s operators.LessOrEqual vs ws = in_order is_le (order_between s vs ws)
operator_result s operators.Greater vs ws = in_order is_gt (order_between s vs ws)
operator_result s operators.GreaterOrEqual vs ws = in_order is_ge (order_between s vs ws)
operator_result s operators.Equal vs ws = Ok (answer (equality vs ws))
operator_result s operators.NotEqual vs ws = Ok (answer (kleene_not (equality vs ws)))
operator_result s operators.In vs ws = member_of vs ws
operator_result s operators.Contains vs ws = member_of ws vs
operator_result s operators.And vs ws = of_truths kleene_and vs ws
operator_result s operators.Or vs ws = of_truths kleene_or vs ws
operator_result s operators.Xor vs ws = of_truths kleene_xor vs ws
operator_result s operators.Implies vs ws = of_truths kleene_implies vs ws

-- ---- what is evaluated for each value

-- whether c is true of the value
abbrev pub criteria_hold : (Plain → Found) → Plain → Result Bool EvalFault
criteria_hold c v = c v >>= λ r. (truth_of r >>= λ p. Ok (is_yes p))

-- the values of which c is true
unfoldable pub values_where : (Plain → Found) → List Plain → Found
values_where c [] = Ok []
values_where c (v ∷ vs) = criteria_hold c v >>= λ b. (values_where c vs >>= λ ws. Ok (if b then v ∷ ws else ws))

-- one value more, if the criteria are true of it
abbrev pub with_next : Bool → List Plain → Plain → List Plain
with_next true us v = us ++ v ∷ []
with_next false us v = us

-- what the function makes of all values and of those of which c is true
abbrev pub filtered_by : Filter → List Plain → List Plain → List Plain
filtered_by filters.Where vs ws = ws
filtered_by filters.Exists vs ws = truth (not (is_empty ws)) ∷ []
filtered_by filters.All vs ws = truth (nat_eq (length ws) (length vs)) ∷ []

-- ---- expressions

-- What the expression gives where `$this` is the value. A fault anywhere is one of the whole, and nothing is cut short.
unfoldable pub den : World → Expression → Plain → Found
den w nothing x = Ok []
den w (boolean b) x = Ok (truth b ∷ [])
den w (expressions.number s) x = Ok (number (literal_value s) ∷ [])
den w (expressions.text s) x = Ok (text s ∷ [])
den w this x = Ok (x ∷ [])
den w resource x = Ok (node w.resource ∷ [])
den w context x = Ok (node w.context ∷ [])
den w (name n) x = Ok (starts w.schema n x)
den w (child a n) x = den w a x >>= λ vs. Ok (children_of n vs)
den w (call f a) x = den w a x >>= λ vs. function_result f vs
den w (typed f a t) x = den w a x >>= λ vs. type_test_result w.schema f t vs
den w (filtered f a c) x = den w a x >>= λ vs. (values_where (den w c) vs >>= λ ws. Ok (filtered_by f vs ws))
den w (binary op a b) x = den w a x >>= λ vs. (den w b x >>= λ ws. operator_result w.schema op vs ws)

-- a fault isn't true
abbrev pub verdict : Result Bool EvalFault → Bool
verdict (Ok b) = b
verdict (Err e) = false

-- the truth of what the expression gives at the item is true
unfoldable pub is_true : World → Expression → Item → Bool
is_true w e x = verdict (criteria_hold (den w e) (node x))
