use Rattle.std.proofs.Common.{List, []}
use Rattle.std.specs.Option.{option_map_or}
use Rattle.fhir_json.specs.Views.{property_seen}
use Rattle.fhir_facets.specs.Carried.{bound_unread}
use Rattle.fhir_facets.specs.Unread.{Unread}
use Rattle.fhir_facets.specs.Views.{range_seen, range_rules}
use Rattle.fhir_facets.proofs.Among.{carried_first, carried_second}
use Rattle.fhir_facets.proofs.ranges.RangeFacetView.holds_given.Goals as goal

pub returns-clause-carried : goal.returns-clause-carried
returns-clause-carried c =
    let range = c.args.self.now in
    let least : List Unread = option_map_or bound_unread (property_seen range.least) [] in
    let most : List Unread = option_map_or bound_unread (property_seen range.most) [] in
    c.and.ensures.carried (range_rules (range_seen range))
    (carried_first least most c.side_holds.result c.side_holds.ensures.carried)
    (carried_second least most c.side_holds-2.result c.side_holds-2.ensures.carried)

pub returns-clause-vouched : goal.returns-clause-vouched
returns-clause-vouched c = c.and.ensures.vouched c.args.given.now c.side_holds.ensures.vouched c.side_holds-2.ensures.vouched
