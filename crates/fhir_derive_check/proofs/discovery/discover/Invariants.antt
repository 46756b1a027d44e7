use Rattle.std.proofs.Common.{◌-◌, ◌^◌}
use Rattle.fhir_derive_check.specs.Discovering.{followed, HasAll}
use Rattle.fhir_derive_check.proofs.Found.{IsSearch}
use Rattle.fhir_derive_check.proofs.discovery.discover.Given as goal

abbrev pub invariant-loop-at : goal.invariant-loop-at
invariant-loop-at l = record {
  search : IsSearch (followed l.follow l.schema) l.fn.first l.found.order.items l.at;
  live : HasAll l.found.live l.found.order.items;
}

abbrev pub decreases-loop-at : goal.decreases-loop-at
decreases-loop-at l = 2 ^ 64 - l.at
