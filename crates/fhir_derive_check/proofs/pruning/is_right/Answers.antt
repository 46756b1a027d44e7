use Rattle.std.proofs.Common.{◌≡◌, ◌∙◌, arith}
use Rattle.std.specs.Prelude.{is_none}
use Rattle.fhir_cert_check.specs.PairSet.{has_pair}
use Rattle.fhir_derive_check.proofs.Pruned.{no_rule-local, none-seen}
use Rattle.fhir_derive_check.proofs.pruning.is_right.Goals as goal

pub returns : goal.returns
returns c =
    let none : c.is_none.result ≡ is_none c.in_ok-rule.rule = grind (arith, c.is_none.ensures) in
    none ∙ none-seen c.in_ok-rule.rule _ c.in_ok-rule.ensures ∙ no_rule-local (has_pair c.args.live.now) c.args.schema.now c.args.pair
