use Rattle.std.proofs.Common.{take}
use Rattle.std.specs.Map.{keys_of}
use Rattle.fhir_names.specs.Places.{Finds}
use Rattle.fhir_report.specs.Lacking.{lacking_seen}
use Rattle.fhir_report.proofs.lacking.LackingTable.of.Given as goal

abbrev pub invariant-loop-place : goal.invariant-loop-place
invariant-loop-place l = Finds l.places (keys_of (lacking_seen (take l.place l.fn.faults.items)))
