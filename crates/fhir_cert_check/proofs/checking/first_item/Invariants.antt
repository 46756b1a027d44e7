use Rattle.std.proofs.Common.{◌≡◌, None, take, drop, map}
use Rattle.fhir_certificate.specs.declared.pair.Pair.TheVariants.{Item}
use Rattle.fhir_cert_check.specs.Rules.{failing_rule}
use Rattle.fhir_cert_check.specs.Checking.{first_in}
use Rattle.fhir_cert_check.specs.PairSet.{has_pair, AreRepeated}
use Rattle.fhir_cert_check.proofs.checking.first_item.Given as goal

abbrev pub invariant-loop-pair : goal.invariant-loop-pair
invariant-loop-pair l =
    (first_in (failing_rule (has_pair l.pairs) l.schema) (map Item (drop l.pair-index l.nodes)) ≡ first_in (failing_rule (has_pair l.pairs) l.schema) (map Item l.nodes))
    × (first_in (failing_rule (has_pair l.pairs) l.schema) (map Item (take l.pair-index l.nodes)) ≡ None)
    × AreRepeated (take l.pair-index l.nodes) l.marks (drop l.pair-index l.nodes)
