use Rattle.std.proofs.Common.{◌≡◌, map, take, Option}
use Rattle.fhir_json.specs.Tree.{Text}
use Rattle.fhir_findings.specs.Carrying.{Carrier}
use Rattle.fhir_findings.specs.Views.{all_told_seen, firsts_seen, texts_seen}
use Rattle.fhir_lines.specs.Lines.{lines_seen}
use Rattle.fhir_report.specs.CarrierLines.{said_line}
use Rattle.fhir_report.proofs.carrier_lines.told_lines.Given as goal

abbrev pub invariant-loop-place : goal.invariant-loop-place
invariant-loop-place l =
    (says : Carrier → Option Text) → texts_seen l.sentences ≡ map says (firsts_seen l.told)
    → lines_seen l.lines.items ≡ map (said_line says) (all_told_seen (take l.place l.told))
