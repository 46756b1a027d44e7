use Rattle.std.proofs.Common.{◌∙◌}
use Rattle.fhir_contradictions.proofs.Told.{told_of}
use Rattle.fhir_contradictions.proofs.listing.push_present.Goals as goal

pub returns : goal.returns
returns c =
    c.in_ok-push_found.ensures
    ∙ told_of c.args.schema.now _ _ _ _ _ _ c.args.into.now.items c.under_of-under.ensures c.sliced_node-sliced.ensures c.node_of.ensures
