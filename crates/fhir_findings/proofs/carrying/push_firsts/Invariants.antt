use Rattle.std.proofs.Common.{◌≡◌, ◌++◌, map, take}
use Rattle.fhir_names.specs.Places.{Finds}
use Rattle.fhir_findings.specs.Carrying.{text_of}
use Rattle.fhir_findings.specs.Firsts.{firsts}
use Rattle.fhir_findings.specs.Views.{carriers_seen}
use Rattle.fhir_findings.proofs.carrying.push_firsts.Given as goal

abbrev pub invariant-loop-place : goal.invariant-loop-place
invariant-loop-place l = record {
  found : Finds l.seen (map text_of (carriers_seen (take l.place l.carriers)));
  pushed : carriers_seen l.into.items ≡ carriers_seen l.fn.into.items ++ firsts text_of (carriers_seen (take l.place l.carriers));
}
