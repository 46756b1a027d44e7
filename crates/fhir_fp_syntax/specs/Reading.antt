-- From a text to an expression.
use Rattle.std.specs.Prelude.{Option}
use Rattle.fhir_json.specs.Tree.{Text}
use Rattle.fhir_fp_syntax.specs.Answers.{◌>>=◌}
use Rattle.fhir_fp_syntax.specs.Expression.{Expression}
use Rattle.fhir_fp_syntax.specs.Lexing.{few_words_in}
use Rattle.fhir_fp_syntax.specs.Parsing.{expression_at}

unfoldable pub expression_in : Text → Option Expression
expression_in s = few_words_in s >>= expression_at
