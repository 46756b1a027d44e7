use Rattle.std.proofs.Common.{◌≡◌, ◌++◌, drop}
use Rattle.std.specs.List.{flat_map}
use Rattle.fhir_findings.specs.Carrying.{constraint_carriers}
use Rattle.fhir_findings.specs.Views.{carriers_seen, spot_seen}
use Rattle.fhir_findings.proofs.carrying.push_constraints.Given as goal

abbrev pub invariant-loop-position : goal.invariant-loop-position
invariant-loop-position l =
    carriers_seen l.into.items ++ flat_map (constraint_carriers (spot_seen l.spot)) (drop l.position l.constraints)
    ≡ carriers_seen l.fn.into.items ++ flat_map (constraint_carriers (spot_seen l.spot)) l.constraints
