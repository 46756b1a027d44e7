use Rattle.std.proofs.Common.{◌≡◌, ◌++◌, map, drop, None}
use Rattle.fhir_facets.specs.Views.{unread_seen}
use Rattle.fhir_findings.specs.Carrying.{carrier_of}
use Rattle.fhir_findings.specs.Views.{carriers_seen, spot_seen}
use Rattle.fhir_findings.proofs.carrying.push_rules.Given as goal

abbrev pub invariant-loop-rule : goal.invariant-loop-rule
invariant-loop-rule l =
    carriers_seen l.into.items ++ map (carrier_of (spot_seen l.spot) None) (map unread_seen (drop l.rule-index l.rules))
    ≡ carriers_seen l.fn.into.items ++ map (carrier_of (spot_seen l.spot) None) (map unread_seen l.rules)
