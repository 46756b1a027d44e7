use Rattle.std.proofs.Common.{◌≡◌, List, drop}
use Rattle.std.specs.List.{flat_map}
use Rattle.fhir_elements.specs.Constraint.{Constraint}
use Rattle.fhir_elements.specs.Tests.{first_of}
use Rattle.fhir_cert_check.specs.Held.{Holds, rule_by}
use Rattle.fhir_cert_check.proofs.constraints.unanswered.Given as goal

abbrev pub invariant-loop-position : goal.invariant-loop-position
invariant-loop-position l =
    (own : List Constraint) → Holds l.held own
    → first_of (flat_map (rule_by l.held own) (drop l.position l.bases)) ≡ first_of (flat_map (rule_by l.held own) l.bases)
