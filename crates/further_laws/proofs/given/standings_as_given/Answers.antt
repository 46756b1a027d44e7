use Rattle.fhir_facets.specs.Unread.{unread_text}
use Rattle.further_laws.proofs.AsGiven.{conforms_still, conforms_by_more, violates_still, violated_before, nothing_given}
use Rattle.further_laws.proofs.given.standings_as_given.Goals as goal

pub returns-clause-conforms : goal.returns-clause-conforms
returns-clause-conforms c s texts profile bytes standing outcome other judged given =
    conforms_still c.one_tree.ensures s texts profile bytes standing outcome other judged given

pub returns-clause-more : goal.returns-clause-more
returns-clause-more c s some more profile bytes standing outcome other within judged given =
    conforms_by_more c.one_tree.ensures s some more profile bytes standing outcome other
    (λ t. c.given_texts.ensures.more s some more (λ u has. within (unread_text u) has) profile t) judged given

pub returns-clause-violates : goal.returns-clause-violates
returns-clause-violates c s texts profile bytes standing outcome other judged given =
    violates_still c.one_tree.ensures s texts profile bytes standing outcome other judged given

pub returns-clause-violated : goal.returns-clause-violated
returns-clause-violated c s texts profile bytes standing outcome other given judged =
    violated_before c.one_tree.ensures s texts profile bytes standing outcome other given judged

pub returns-clause-nothing : goal.returns-clause-nothing
returns-clause-nothing c s profile bytes standing given outcome other judged vouched =
    nothing_given c.one_tree.ensures s profile bytes standing given outcome other judged vouched
