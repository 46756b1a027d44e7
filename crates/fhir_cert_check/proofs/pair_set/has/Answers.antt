use Rattle.std.proofs.Common.{ap, ◌∙◌}
use Rattle.std.specs.List.{list_any}
use Rattle.fhir_cert_check.proofs.Orders.{is_at_pair}
use Rattle.fhir_cert_check.proofs.pair_set.has.Goals as goal

pub returns : goal.returns
returns c = c.contains.ensures ∙ ap (λ f. list_any f c.args.set.now.keys) (λ j q. is_at_pair c.args.pair q j)
