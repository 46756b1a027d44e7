use Rattle.std.proofs.Common.{sym, ap, ◌∙◌, ◌++◌, get_or, map}
use Rattle.std.specs.Option.{option_map, option_to_list}
use Rattle.fhir_cert_check.specs.PairSet.{has_pair}
use Rattle.fhir_cert_check.specs.Rules.{failing_rule}
use Rattle.fhir_derive_check.specs.Pruning.{wrong_seen}
use Rattle.fhir_derive_check.proofs.Same.{no_pair}
use Rattle.fhir_derive_check.proofs.Pruned.{all_failing-next}
use Rattle.fhir_derive_check.proofs.pruning.failing_pairs.Goals as goal

pub loop-pair-preserved : goal.loop-pair-preserved
loop-pair-preserved c =
    let fails = failing_rule (has_pair c.args.found.now.live) c.args.schema.now in
    let items = c.deref-pair-items.result.now in
    let i = c.loop-pair.pair-index in
    let pair = get_or items i no_pair in
    c.in_ok-put_wrong.ensures
    ∙ ap (λ o. map wrong_seen c.loop-pair.wrongs.items ++ option_to_list (option_map (λ name. (pair, name)) o)) c.in_ok-rule.ensures
    ∙ ap (λ l. l ++ option_to_list (option_map (λ name. (pair, name)) (fails pair))) c.loop-pair.invariant
    ∙ sym (all_failing-next fails items i no_pair c.loop-pair-test.true)
