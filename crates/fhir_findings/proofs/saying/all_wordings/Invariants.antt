use Rattle.std.proofs.Common.{◌≡◌, take}
use Rattle.std.specs.List.{flat_map}
use Rattle.fhir_findings.specs.Sentences.{wordings_of}
use Rattle.fhir_findings.specs.Views.{wordings_seen}
use Rattle.fhir_findings.proofs.saying.all_wordings.Given as goal

abbrev pub invariant-loop-place : goal.invariant-loop-place
invariant-loop-place l = wordings_seen l.all.items ≡ flat_map wordings_of (take l.place l.«package».structure_definitions)
