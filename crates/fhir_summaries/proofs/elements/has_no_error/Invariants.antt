use Rattle.std.proofs.Common.{◌≡◌, drop, not}
use Rattle.std.specs.List.{list_all}
use Rattle.fhir_elements.specs.Constraint.{must_hold}
use Rattle.fhir_summaries.proofs.elements.has_no_error.Given as goal

abbrev pub invariant-loop-constraint : goal.invariant-loop-constraint
invariant-loop-constraint l =
    list_all (λ c. not (must_hold c)) (drop l.constraint-index l.constraint-items) ≡ list_all (λ c. not (must_hold c)) l.constraint-items
