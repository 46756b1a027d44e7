use Rattle.std.proofs.Common.{[]}
use Rattle.fhir_facets.proofs.order.OrderFacetRefSliceRefStr.holds_given.Goals as goal

pub returns-clause-carried : goal.returns-clause-carried
returns-clause-carried c = c.of.ensures.carried []

pub returns-clause-vouched : goal.returns-clause-vouched
returns-clause-vouched c = c.of.ensures.vouched c.args._given.now
