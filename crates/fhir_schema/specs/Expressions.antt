-- The constraints of a node, and their expressions, where they can be read.
use Rattle.std.specs.Prelude.{ℕ, Option}
use Rattle.std.specs.Option.{option_and_then}
use Rattle.std.specs.List.{slice_get}
use Rattle.fhir_elements.specs.Constraint.{Constraint}
use Rattle.fhir_fp_syntax.specs.Expression.{Expression}
use Rattle.fhir_nodes.specs.declared.node.NodeRef.{NodeRef}
use Rattle.fhir_nodes.specs.Expressions.{expression_of}
use Rattle.fhir_schema.specs.Schemas.{SchemaValue, element_at}

-- the constraint at a position among those of a node's element
abbrev pub constraint_at : SchemaValue → NodeRef → ℕ → Option Constraint
constraint_at s n position = option_and_then (λ e. slice_get e.constraints position) (element_at s n)

abbrev pub expression_at : SchemaValue → NodeRef → ℕ → Option Expression
expression_at s n position = option_and_then expression_of (constraint_at s n position)
