use Rattle.std.proofs.Common.{IsTrue, take}
use Rattle.fhir_certificate.specs.declared.pair.Pair.{Pair}
use Rattle.fhir_derive_check.specs.Finding.{is_in}
use Rattle.fhir_derive_check.specs.Pruning.{askers_of}
use Rattle.fhir_derive_check.proofs.pruning.put_asks.Given as goal

abbrev pub invariant-loop-next : goal.invariant-loop-next
invariant-loop-next l = record {
  kept : (p q : Pair) → IsTrue (is_in (askers_of l.fn.askers p) q) → IsTrue (is_in (askers_of l.askers p) q);
  there : (p : Pair) → IsTrue (is_in (take l.next-index l.next-items) p) → IsTrue (is_in (askers_of l.askers p) l.asker);
}
