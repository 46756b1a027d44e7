use Rattle.std.proofs.Common.{take}
use Rattle.fhir_reach.specs.Keys.{keys_seen}
use Rattle.fhir_findings.specs.Held.{PlacesKeys}
use Rattle.fhir_findings.proofs.held.HeldKeys.of.Given as goal

abbrev pub invariant-loop-place : goal.invariant-loop-place
invariant-loop-place l = PlacesKeys l.urls l.codes (keys_seen (take l.place l.fn.keys.items))
