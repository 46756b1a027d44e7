-- Words for private contracts alone: what a path gives from an item, step by step, and results of at most one value.
use Rattle.std.specs.Prelude.{List, [], ◌∷◌, Bool, true, drop, Option, Some, None, Ok}
use Rattle.std.specs.Option.{option_map}
use Rattle.std.specs.Str.{bytes_eq}
use Rattle.fhir_json.specs.Tree.{Text}
use Rattle.fhir_schema.specs.Schemas.{SchemaValue}
use Rattle.fhir_instance.specs.Items.{Item, Kids, kids_of}
use Rattle.fhir_instance.specs.View.{item_of}
use Rattle.fhir_fp_syntax.specs.declared.expr.Function.{Function}
use Rattle.fhir_fp_syntax.specs.declared.expr.Operator.{Operator}
use Rattle.fhir_fp_eval.specs.declared.step.Step.{Step}
use Rattle.fhir_fp_eval.specs.declared.step.Step.TheVariants as steps
use Rattle.fhir_fp_eval.specs.declared.step.Steps.{Steps}
use Rattle.fhir_fp_eval.specs.declared.paths.Path.{Path}
use Rattle.fhir_fp_values.specs.Values.{Plain, node, system_value}
use Rattle.fhir_fp_values.specs.Equality.{Kleene}
use Rattle.fhir_fp_eval.specs.Meaning.{◌>>=◌, Found, path_name, kids_named, all_kids, below, truth_in, function_result, operator_result}

-- whether a step leads to a child of this name
abbrev pub takes : Step → Text → Bool
takes (steps.Named n) m = bytes_eq (path_name m) n.now
takes steps.Children m = true

-- the children to which it leads
abbrev pub taken : Step → Kids → List Item
taken (steps.Named n) ks = kids_named n.now ks
taken steps.Children ks = all_kids ks

abbrev pub step_from : Step → List Plain → List Plain
step_from s vs = below (λ x. taken s (kids_of x)) vs

-- what the steps give, the one behind the other
abbrev pub onward : List Step → List Plain → List Plain
onward [] vs = vs
onward (s ∷ ss) vs = onward ss (step_from s vs)

abbrev pub steps_in : Steps → List Step
steps_in s = drop s.first s.steps

abbrev pub given_by : Path → List Plain
given_by p = onward (steps_in p.steps) (node (item_of p.from.now) ∷ [])

-- ---- what is made of results

abbrev pub then_step : Step → Found → Found
then_step s r = r >>= λ vs. Ok (step_from s vs)

abbrev pub then_steps : List Step → Found → Found
then_steps ss r = r >>= λ vs. Ok (onward ss vs)

abbrev pub then_function : Function → Found → Found
then_function f r = r >>= λ vs. function_result f vs

abbrev pub then_operator : SchemaValue → Operator → Found → Found → Found
then_operator s op r q = r >>= λ vs. (q >>= λ ws. operator_result s op vs ws)

-- ---- at most one value

abbrev pub first_in : List Plain → Option Plain
first_in [] = None
first_in (x ∷ xs) = Some x

abbrev pub at_most_one : Option Plain → List Plain
at_most_one None = []
at_most_one (Some v) = v ∷ []

abbrev pub truth_said : Option Plain → Kleene
truth_said v = option_map (λ x. truth_in (system_value x)) v
