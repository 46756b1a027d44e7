use Rattle.std.proofs.Common.{◌≡◌, map, take}
use Rattle.fhir_cert_check.specs.PairSet.{has_pair}
use Rattle.fhir_cert_check.specs.Rules.{failing_rule}
use Rattle.fhir_derive_check.specs.Pruning.{wrong_seen, all_failing}
use Rattle.fhir_derive_check.proofs.pruning.failing_pairs.Given as goal

abbrev pub invariant-loop-pair : goal.invariant-loop-pair
invariant-loop-pair l =
    map wrong_seen l.wrongs.items ≡ all_failing (failing_rule (has_pair l.found.live) l.schema) (take l.pair-index l.pair-items)
