use Rattle.fhir_json.specs.Views.{tree_of}
use Rattle.fhir_facets.specs.Values.{pattern_holds}
use Rattle.fhir_facets.specs.Views.{view_seen}
use Rattle.fhir_facets.specs.Unread.{Meaning}
use Rattle.fhir_facets.proofs.Readings.{in_both, by_none}
use Rattle.fhir_facets.proofs.values.PatternFacetView.holds.Goals as goal

pub returns-clause-exact : goal.returns-clause-exact
returns-clause-exact c =
    in_both (λ (m : Meaning). pattern_holds (tree_of c.args.self.now.0.now) (view_seen c.args.asked.now))
    c.none.result c.holds_given-2.result c.holds_given-2.ensures.exact

pub returns-clause-vouched : goal.returns-clause-vouched
returns-clause-vouched c = by_none c.none.result c.holds_given-2.result c.none.ensures c.holds_given-2.ensures.vouched
