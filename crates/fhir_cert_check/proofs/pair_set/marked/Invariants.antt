use Rattle.std.proofs.Common.{take}
use Rattle.fhir_cert_check.specs.PairSet.{AreMarked}
use Rattle.fhir_cert_check.proofs.pair_set.marked.Given as goal

abbrev pub invariant-loop-pair : goal.invariant-loop-pair
invariant-loop-pair l = AreMarked l.set.keys l.repeated.items (take l.pair-index l.pairs)
