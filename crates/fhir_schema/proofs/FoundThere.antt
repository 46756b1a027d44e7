-- Where the expression of a constraint stands in the lists of all.
use Rattle.std.proofs.Common.{◌≡◌, ℕ, List, [], None, Some, Option, ap, refl, ◌∙◌}
use Rattle.std.specs.Option.{option_map, option_map_or, option_and_then}
use Rattle.std.specs.List.{slice_get}
use Rattle.std.proofs.lemmas.Option.{slice_get-map}
use Rattle.fhir_elements.specs.Constraint.{Constraint}
use Rattle.fhir_elements.specs.Element.{Element}
use Rattle.fhir_definition.specs.Definition.{Definition}
use Rattle.fhir_nodes.specs.Expressions.{expression_of, expressions_in, expressions_of, all_expressions}
use Rattle.fhir_nodes.specs.Readings.{shared_at, listed_at, found_at}

of_constraint : (c : Option Constraint) → option_and_then (λ e. e) (option_map expression_of c) ≡ option_and_then expression_of c
of_constraint None = refl
of_constraint (Some c) = refl

of_element : (x : Option Element) (i : ℕ) → option_and_then (λ es. shared_at es i) (option_map expressions_in x)
    ≡ option_and_then expression_of (option_and_then (λ e. slice_get e.constraints i) x)
of_element None i = refl
of_element (Some x) i =
    ap (option_and_then (λ e. e)) (slice_get-map expression_of x.constraints i) ∙ of_constraint (slice_get x.constraints i)

of_definition : (d : Option Definition) (element i : ℕ) → option_and_then (λ ls. listed_at ls element i) (option_map expressions_of d)
    ≡ option_and_then expression_of (option_and_then (λ e. slice_get e.constraints i) (slice_get (option_map_or (λ x. x.elements) d []) element))
of_definition None element i = refl
of_definition (Some d) element i =
    ap (option_and_then (λ es. shared_at es i)) (slice_get-map expressions_in d.elements element) ∙ of_element (slice_get d.elements element) i

pub found_there : (ds : List Definition) (definition element i : ℕ) → found_at (all_expressions ds) definition element i
    ≡ option_and_then expression_of (option_and_then (λ e. slice_get e.constraints i) (slice_get (option_map_or (λ x. x.elements) (slice_get ds definition) []) element))
found_there ds definition element i =
    ap (option_and_then (λ ls. listed_at ls element i)) (slice_get-map expressions_of ds definition) ∙ of_definition (slice_get ds definition) element i
