use Rattle.std.proofs.Common.{ap, not, true, ◌∙◌}
use Rattle.std.specs.List.{list_any}
use Rattle.fhir_cert_check.specs.Checking.{same_nodes}
use Rattle.fhir_cert_check.proofs.Orders.{any_at_pair, with_pair, put_or}
use Rattle.fhir_cert_check.proofs.pair_set.insert.Goals as goal

pub returns-clause-new : goal.returns-clause-new
returns-clause-new c = c.in_ok-insert.ensures.added ∙ ap not (any_at_pair c.args.pair c.args.set.now.keys)

pub returns-clause-pairs : goal.returns-clause-pairs
returns-clause-pairs c = λ q.
    with_pair c.args.set.now.keys c.insert.new.self.keys c.args.pair true c.in_ok-insert.ensures.updates.0 q
    ∙ put_or (same_nodes q c.args.pair) (list_any (same_nodes q) c.args.set.now.keys)
