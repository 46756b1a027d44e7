use Rattle.std.proofs.Common.{◌++◌, List, take}
use Rattle.fhir_elements.specs.Constraint.{Constraint}
use Rattle.fhir_cert_check.specs.Held.{Holds}
use Rattle.fhir_cert_check.specs.Rules.{own_constraints}
use Rattle.fhir_cert_check.proofs.constraints.hold_own.Given as goal

abbrev pub invariant-loop-position : goal.invariant-loop-position
invariant-loop-position l =
    (own : List Constraint) → Holds l.fn.held own → Holds l.held (own ++ take l.position (own_constraints l.schema l.node))
