use Rattle.std.proofs.Common.{sym, ap, ◌∙◌, filter}
use Rattle.fhir_cert_check.specs.Asked.{asked_for}
use Rattle.fhir_derive_check.specs.Discovering.{follows}
use Rattle.fhir_derive_check.proofs.Found.{filter-all}
use Rattle.fhir_derive_check.proofs.discovery.followed.Goals as goal

pub returns-in-All : goal.returns-in-All
returns-in-All c =
    let s = c.args.schema.now in
    let asker = c.args.pair in
    let asked = asked_for s asker in
    c.in_ok-asked.ensures ∙ sym (ap (λ follow. filter (follows follow s asker) asked) c.in-All.is ∙ filter-all s asker asked)
