use Rattle.std.proofs.Common.{◌≤◌, ◌-◌, length}
use Rattle.fhir_findings.proofs.collecting.place_behind.Given as goal

abbrev pub invariant-loop-place : goal.invariant-loop-place
invariant-loop-place l = (l.from ≤ l.place) × (l.place ≤ length l.faults)

abbrev pub decreases-loop-place : goal.decreases-loop-place
decreases-loop-place l = length l.faults - l.place
