use Rattle.std.proofs.Common.{◌≡◌, None, take, drop, map}
use Rattle.fhir_certificate.specs.declared.pair.Pair.TheVariants.{Kids}
use Rattle.fhir_cert_check.specs.Rules.{failing_rule}
use Rattle.fhir_cert_check.specs.Checking.{first_in}
use Rattle.fhir_cert_check.specs.PairSet.{has_pair, AreRepeated}
use Rattle.fhir_cert_check.proofs.checking.first_kids.Given as goal

abbrev pub invariant-loop-pair : goal.invariant-loop-pair
invariant-loop-pair l =
    (first_in (failing_rule (has_pair l.pairs) l.schema) (map Kids (drop l.pair-index l.nodes)) ≡ first_in (failing_rule (has_pair l.pairs) l.schema) (map Kids l.nodes))
    × (first_in (failing_rule (has_pair l.pairs) l.schema) (map Kids (take l.pair-index l.nodes)) ≡ None)
    × AreRepeated (take l.pair-index l.nodes) l.marks (drop l.pair-index l.nodes)
