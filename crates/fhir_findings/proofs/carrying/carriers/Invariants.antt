use Rattle.std.proofs.Common.{◌≡◌, take}
use Rattle.std.specs.List.{flat_map, enumerate_from}
use Rattle.fhir_findings.specs.Carrying.{selected_carriers}
use Rattle.fhir_findings.specs.Views.{carriers_seen}
use Rattle.fhir_findings.proofs.carrying.carriers.Given as goal

abbrev pub invariant-loop-place : goal.invariant-loop-place
invariant-loop-place l =
    carriers_seen l.found.items
    ≡ flat_map (selected_carriers l.selection l.schema l.survey) (enumerate_from 0 (take l.place l.survey.definitions.structure_definitions))
