use Rattle.std.proofs.Common.{[], sym, subst}
use Rattle.std.specs.Prelude.{OnOk}
use Rattle.std.specs.Option.{option_map_or}
use Rattle.fhir_json.specs.Views.{property_seen}
use Rattle.fhir_facets.specs.Carried.{bound_unread}
use Rattle.fhir_validator.proofs.Resting.{AreHung, AreTold, told_none}
use Rattle.fhir_validator.proofs.judging.Judge.put_bound.Goals as goal

pub put_given-requires : goal.put_given-requires
put_given-requires c =
    let layout = c.args.self.now in
    let w = c.args.listing.now.wanted in
    subst (AreHung layout w c.args.pair c.args.node) (sym c.of_bound.ensures)
    (subst (λ o. AreHung layout w c.args.pair c.args.node (option_map_or bound_unread (property_seen o) [])) c.in-Some.is c.requires)

pub returns-in-Some-clause-told : goal.returns-in-Some-clause-told
returns-in-Some-clause-told c =
    let layout = c.args.self.now in
    let new = c.put_given.new.listing in
    subst (λ o. OnOk c.put_given.result (AreTold layout new (option_map_or bound_unread (property_seen o) []))) (sym c.in-Some.is)
    (subst (λ rules. OnOk c.put_given.result (AreTold layout new rules)) c.of_bound.ensures c.put_given.ensures.told)

pub returns-in-None-clause-told : goal.returns-in-None-clause-told
returns-in-None-clause-told c =
    let layout = c.args.self.now in
    let old = c.args.listing.now in
    subst (λ o. AreTold layout old (option_map_or bound_unread (property_seen o) [])) (sym c.in-None.is) (told_none layout old)
