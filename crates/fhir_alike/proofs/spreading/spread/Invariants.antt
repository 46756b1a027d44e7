use Rattle.std.proofs.Common.{◌≡◌, ◌-◌, ◌^◌}
use Rattle.fhir_definition.specs.Views.{lists_in}
use Rattle.fhir_alike.specs.Spreading.{users_of}
use Rattle.fhir_alike.proofs.Spreads.{IsCarried}
use Rattle.fhir_alike.proofs.spreading.spread.Given as goal

abbrev pub invariant-loop-at : goal.invariant-loop-at
invariant-loop-at l = record {
  users : lists_in l.users.items ≡ users_of (lists_in l.edges);
  carried : IsCarried (lists_in l.edges) l.marks l.at (l.told.marks.items, l.told.queue.items);
}

abbrev pub decreases-loop-at : goal.decreases-loop-at
decreases-loop-at l = 2 ^ 64 - l.at
