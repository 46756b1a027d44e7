use Rattle.std.proofs.Common.{take}
use Rattle.fhir_derive_check.specs.Pruning.{askers_of, ListsAskers}
use Rattle.fhir_derive_check.proofs.pruning.askers_among.Given as goal

abbrev pub invariant-loop-pair : goal.invariant-loop-pair
invariant-loop-pair l = ListsAskers l.schema (take l.pair-index l.pairs) (askers_of l.askers)
