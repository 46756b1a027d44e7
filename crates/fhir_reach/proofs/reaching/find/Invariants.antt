use Rattle.std.proofs.Common.{◌≡◌, ◌-◌, ◌^◌, ◌≤◌, length}
use Rattle.fhir_reach.specs.Keys.{keys_seen}
use Rattle.fhir_reach.specs.Search.{found_after}
use Rattle.fhir_reach.proofs.reaching.find.Given as goal

abbrev pub invariant-loop-at : goal.invariant-loop-at
invariant-loop-at l = record { found : l.found ≡ found_after l.«package» (keys_seen l.fn.start) l.at; within : l.at ≤ length l.found }

abbrev pub decreases-loop-at : goal.decreases-loop-at
decreases-loop-at l = 2 ^ 64 - l.at
