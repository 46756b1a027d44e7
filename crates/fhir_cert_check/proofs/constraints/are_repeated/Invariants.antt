use Rattle.std.proofs.Common.{◌≡◌, ◌++◌, List, drop}
use Rattle.std.specs.List.{flat_map}
use Rattle.fhir_elements.specs.Constraint.{Constraint}
use Rattle.fhir_elements.specs.Tests.{first_of}
use Rattle.fhir_cert_check.specs.Rules.{constraint_rule}
use Rattle.fhir_cert_check.proofs.constraints.are_repeated.Given as goal

abbrev pub invariant-loop-position : goal.invariant-loop-position
invariant-loop-position l =
    (before after : List Constraint)
    → first_of (flat_map (constraint_rule (before ++ l.own ++ after)) (drop l.position l.bases))
    ≡ first_of (flat_map (constraint_rule (before ++ l.own ++ after)) l.bases)
