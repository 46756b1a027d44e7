use Rattle.std.proofs.Common.{map}
use Rattle.fhir_facets.specs.Order.{order_holds}
use Rattle.fhir_facets.specs.Unread.{Meaning}
use Rattle.fhir_facets.proofs.Readings.{in_both, by_none}
use Rattle.fhir_facets.proofs.order.OrderFacetRefSliceRefStr.holds.Goals as goal

pub returns-clause-exact : goal.returns-clause-exact
returns-clause-exact c =
    in_both (λ (m : Meaning). order_holds c.args.self.now.schema.now c.args.self.now.node (map (λ name. name.now) c.args.asked.now.now))
    c.none.result c.holds_given-2.result c.holds_given-2.ensures.exact

pub returns-clause-vouched : goal.returns-clause-vouched
returns-clause-vouched c = by_none c.none.result c.holds_given-2.result c.none.ensures c.holds_given-2.ensures.vouched
