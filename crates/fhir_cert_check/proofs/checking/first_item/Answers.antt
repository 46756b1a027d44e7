use Rattle.std.proofs.Common.{ap}
use Rattle.fhir_certificate.specs.declared.pair.NodePair.{NodePair}
use Rattle.fhir_certificate.specs.declared.pair.Pair.TheVariants.{Item}
use Rattle.fhir_cert_check.specs.Rules.{failing_rule}
use Rattle.fhir_cert_check.specs.PairSet.{has_pair}
use Rattle.fhir_cert_check.specs.Views.{rule_seen}
use Rattle.fhir_cert_check.proofs.Repeated.{passed}
use Rattle.fhir_cert_check.proofs.checking.first_item.Goals as goal

pub loop-pair-preserved : goal.loop-pair-preserved
loop-pair-preserved c =
    let d : NodePair = record { derived = record { definition = 0; element = 0 }; base = record { definition = 0; element = 0 } } in
    passed Item (failing_rule (has_pair c.args.pairs.now) c.args.schema.now) c.args.nodes.now c.loop-pair.pair-index d c.loop-pair.marks.now
    c.split_mark-is_repeated.result.1.now c.split_mark-is_repeated.result.0 (rule_seen c.in_ok-rule.field-0) c.loop-pair-test.true c.split_mark-is_repeated.ensures
    c.in_ok-rule.ensures (ap rule_seen c.in_default.is) c.loop-pair.invariant
