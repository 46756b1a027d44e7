use Rattle.fhir_facets.specs.Carried.{target_unread}
use Rattle.fhir_facets.proofs.targets.target_holds.Goals as goal

pub returns-in-Some-clause-carried : goal.returns-in-Some-clause-carried
returns-in-Some-clause-carried c = c.of.ensures.carried (target_unread c.args.schema.now c.args.canonical.now)

pub returns-in-Some-clause-vouched : goal.returns-in-Some-clause-vouched
returns-in-Some-clause-vouched c = c.of.ensures.vouched c.args.given.now
