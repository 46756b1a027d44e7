use Rattle.std.proofs.Common.{◌≡◌, ◌+◌, ◌*◌, ◌^◌, filter, length}
use Rattle.fhir_certificate.specs.declared.pair.Pair.{Pair}
use Rattle.fhir_cert_check.specs.Asked.{asked_for}
use Rattle.fhir_cert_check.specs.PairSet.{has_pair}
use Rattle.fhir_derive_check.specs.Finding.{IsDiscovery}
use Rattle.fhir_derive_check.specs.Pruning.{askers_of, ListsAskers, waiting_in, IsQueue, IsWithin, IsPruning}
use Rattle.fhir_derive_check.proofs.pruning.revise_all.Given as goal

abbrev pub invariant-loop-pair : goal.invariant-loop-pair
invariant-loop-pair l = record {
  order : l.found.order ≡ l.fn.found.order;
  within : IsWithin (has_pair l.found.live) l.fn.found.order.items;
  queue : IsQueue l.queue;
  pruning : (first : Pair) → IsDiscovery (asked_for l.schema) first l.fn.found.order.items
      → ListsAskers l.schema l.fn.found.order.items (askers_of l.askers)
      → IsPruning l.schema l.fn.found.order.items (has_pair l.fn.found.live) l.list
      → IsPruning l.schema l.fn.found.order.items (has_pair l.found.live) (waiting_in l.queue);
}

abbrev pub decreases-loop-pair : goal.decreases-loop-pair
decreases-loop-pair l = length (filter (has_pair l.found.live) l.fn.found.order.items) * 2 ^ 64 + length (waiting_in l.queue)
