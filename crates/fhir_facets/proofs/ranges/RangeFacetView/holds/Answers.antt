use Rattle.fhir_facets.specs.Ranges.{range_holds}
use Rattle.fhir_facets.specs.Views.{range_seen, view_seen}
use Rattle.fhir_facets.specs.Unread.{Meaning}
use Rattle.fhir_facets.proofs.Readings.{in_both, by_none}
use Rattle.fhir_facets.proofs.ranges.RangeFacetView.holds.Goals as goal

pub returns-clause-exact : goal.returns-clause-exact
returns-clause-exact c =
    in_both (λ (m : Meaning). range_holds m (range_seen c.args.self.now) (view_seen c.args.asked.now))
    c.none.result c.holds_given-2.result c.holds_given-2.ensures.exact

pub returns-clause-vouched : goal.returns-clause-vouched
returns-clause-vouched c = by_none c.none.result c.holds_given-2.result c.none.ensures c.holds_given-2.ensures.vouched
