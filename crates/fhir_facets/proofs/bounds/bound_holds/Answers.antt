use Rattle.fhir_json.specs.Views.{property_of}
use Rattle.fhir_facets.specs.Carried.{bound_unread}
use Rattle.fhir_facets.proofs.bounds.bound_holds.Goals as goal

pub returns-in-Some-clause-carried : goal.returns-in-Some-clause-carried
returns-in-Some-clause-carried c = c.of.ensures.carried (bound_unread (property_of c.args.bound.now))

pub returns-in-Some-clause-vouched : goal.returns-in-Some-clause-vouched
returns-in-Some-clause-vouched c = c.of.ensures.vouched c.args.given.now
