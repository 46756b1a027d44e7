use Rattle.fhir_facets.specs.Carried.{binding_unread}
use Rattle.fhir_facets.specs.Views.{binding_seen, view_seen}
use Rattle.fhir_facets.proofs.bindings.BindingFacetView.holds_given.Goals as goal

pub returns-in-Some-clause-carried : goal.returns-in-Some-clause-carried
returns-in-Some-clause-carried c = c.of.ensures.carried (binding_unread (binding_seen c.args.self.now) (view_seen c.args.asked.now))

pub returns-in-Some-clause-vouched : goal.returns-in-Some-clause-vouched
returns-in-Some-clause-vouched c = c.of.ensures.vouched c.args.given.now
