use Rattle.std.proofs.Common.{◌≡◌, take}
use Rattle.fhir_derive_check.specs.Finding.{all_added}
use Rattle.fhir_derive_check.specs.Discovering.{HasAll}
use Rattle.fhir_derive_check.proofs.discovery.visit.Given as goal

abbrev pub invariant-loop-next : goal.invariant-loop-next
invariant-loop-next l = record {
  order : HasAll l.fn.found.live l.fn.found.order.items → l.found.order.items ≡ all_added l.fn.found.order.items (take l.next-index l.next-items);
  live : HasAll l.fn.found.live l.fn.found.order.items → HasAll l.found.live l.found.order.items;
}
