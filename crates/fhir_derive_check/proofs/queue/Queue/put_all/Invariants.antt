use Rattle.std.proofs.Common.{◌≡◌, ◌||◌, take}
use Rattle.fhir_certificate.specs.declared.pair.Pair.{Pair}
use Rattle.fhir_derive_check.specs.Finding.{is_in}
use Rattle.fhir_derive_check.specs.Pruning.{waiting_in, IsQueue}
use Rattle.fhir_derive_check.proofs.queue.Queue.put_all.Given as goal

abbrev pub invariant-loop-pair : goal.invariant-loop-pair
invariant-loop-pair l = record {
  pairs : IsQueue l.fn.self → (p : Pair) → is_in (waiting_in l.self) p ≡ (is_in (take l.pair-index l.pairs) p || is_in (waiting_in l.fn.self) p);
  queue : IsQueue l.fn.self → IsQueue l.self;
}
