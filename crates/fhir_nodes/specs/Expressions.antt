-- The expressions of constraints (FHIR R4, ElementDefinition, constraint.expression), where they can be read.
use Rattle.std.specs.Prelude.{List, map, Option}
use Rattle.std.specs.Option.{option_and_then}
use Rattle.fhir_elements.specs.Constraint.{Constraint}
use Rattle.fhir_elements.specs.Element.{Element}
use Rattle.fhir_definition.specs.Definition.{Definition}
use Rattle.fhir_fp_syntax.specs.Expression.{Expression}
use Rattle.fhir_fp_syntax.specs.Reading.{expression_in}

abbrev pub expression_of : Constraint → Option Expression
expression_of c = option_and_then expression_in c.expression

-- those of each constraint of each element of each definition
abbrev pub expressions_in : Element → List (Option Expression)
expressions_in e = map expression_of e.constraints

abbrev pub expressions_of : Definition → List (List (Option Expression))
expressions_of d = map expressions_in d.elements

abbrev pub all_expressions : List Definition → List (List (List (Option Expression)))
all_expressions ds = map expressions_of ds
