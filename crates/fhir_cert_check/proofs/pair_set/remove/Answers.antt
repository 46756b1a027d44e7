use Rattle.std.proofs.Common.{false, ◌∙◌}
use Rattle.std.specs.List.{list_any}
use Rattle.fhir_cert_check.specs.Checking.{same_nodes}
use Rattle.fhir_cert_check.proofs.Orders.{with_pair, taken_and}
use Rattle.fhir_cert_check.proofs.pair_set.remove.Goals as goal

pub returns : goal.returns
returns c = λ q.
    with_pair c.args.set.now.keys c.remove-removed.new.self.keys c.args.pair false c.remove-removed.ensures.updates.0 q
    ∙ taken_and (same_nodes q c.args.pair) (list_any (same_nodes q) c.args.set.now.keys)
