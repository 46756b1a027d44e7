use Rattle.std.proofs.Common.{◌≡◌, take}
use Rattle.fhir_names.specs.Places.{Finds}
use Rattle.fhir_findings.specs.Carrying.{text_of}
use Rattle.fhir_findings.specs.Once.{told_once}
use Rattle.fhir_findings.specs.Telling.{texts_told}
use Rattle.fhir_findings.specs.Views.{carriers_seen, all_told_seen}
use Rattle.fhir_findings.proofs.once.told_once.Given as goal

abbrev pub invariant-loop-carrier : goal.invariant-loop-carrier
invariant-loop-carrier l = record {
  found : Finds l.places (texts_told text_of (all_told_seen l.told.items));
  same : all_told_seen l.told.items ≡ told_once text_of (carriers_seen (take l.carrier-index l.carriers));
}
