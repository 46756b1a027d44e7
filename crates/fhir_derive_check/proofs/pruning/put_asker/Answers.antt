use Rattle.std.proofs.Common.{arith, ap, ◌∙◌}
use Rattle.std.specs.Option.{option_map_or}
use Rattle.std.specs.BTreeMap.{get_by}
use Rattle.fhir_certificate.specs.contracts.pair.NodePairOrd.TheImpl.{cmp-value}
use Rattle.fhir_derive_check.proofs.Asking.{asker-put, one-more}
use Rattle.fhir_derive_check.proofs.pruning.put_asker.Goals as goal

pub returns : goal.returns
returns c = λ other.
    grind (
      arith,
      asker-put c.args.askers.now _ c.args.nodes other c.args.asker c.push.new.self
          ((c.in_ok-askers.ensures.update.0 c.push.new.self).0 other)
          (one-more (get_by (cmp-value.it c.args.nodes) c.args.askers.now) c.new.result c.or_insert.result.now c.push.new.self c.args.asker c.new.ensures.items
          (c.or_insert.ensures.value ∙ ap (λ o. option_map_or (λ v. v) o c.new.result) c.in_ok-askers.ensures.value)
          c.in_ok-push.ensures.items),
    )
