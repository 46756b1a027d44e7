use Rattle.std.proofs.Common.{◌≡◌, ◌++◌, take}
use Rattle.std.specs.List.{flat_map, enumerate_from}
use Rattle.fhir_schema.specs.Schemas.{elements_at}
use Rattle.fhir_findings.specs.Carrying.{element_carriers}
use Rattle.fhir_findings.specs.Views.{carriers_seen, spot_seen}
use Rattle.fhir_findings.proofs.carrying.push_elements.Given as goal

abbrev pub invariant-loop-element : goal.invariant-loop-element
invariant-loop-element l =
    carriers_seen l.into.items
    ≡ carriers_seen l.fn.into.items
    ++ flat_map (element_carriers l.schema (spot_seen l.spot) l.place) (enumerate_from 0 (take l.element (elements_at l.schema l.place)))
