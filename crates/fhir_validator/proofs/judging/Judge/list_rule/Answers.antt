use Rattle.std.proofs.Common.{sym, ap, ◌∙◌}
use Rattle.fhir_facets.specs.Views.{holding_at}
use Rattle.fhir_conformance.specs.Asks.{own}
use Rattle.fhir_conformance.specs.Views.{rule_name}
use Rattle.fhir_validator.specs.declared.judgement.Judgement.TheVariants.{Holds, Given, Open, Fails}
use Rattle.fhir_validator.specs.Layouts.{item_at}
use Rattle.fhir_validator.proofs.Raising.{own_raised}
use Rattle.fhir_validator.proofs.Resting.{under_holds, under_given, under_open, under_fails, held_lists}
use Rattle.fhir_validator.proofs.Told.{judged_there}
use Rattle.fhir_validator.proofs.judging.Judge.list_rule.Goals as goal

pub list_broken-requires-clause-fails : goal.list_broken-requires-clause-fails
list_broken-requires-clause-fails c =
    judged_there c.args.self.now c.args.pair (rule_name c.args.rule) c.args.node Fails
    (λ r. under_fails r ∙ ap (holding_at r) (sym c.in-Fails.is) ∙ c.in_ok-holding.ensures.exact r)

pub list_given-requires-clause-hangs : goal.list_given-requires-clause-hangs
list_given-requires-clause-hangs c =
    judged_there c.args.self.now c.args.pair (rule_name c.args.rule) c.args.node Given
    (λ r. under_given r c.in-Given.unread ∙ ap (holding_at r) (sym c.in-Given.is) ∙ c.in_ok-holding.ensures.exact r)

pub list_open-requires-clause-hangs : goal.list_open-requires-clause-hangs
list_open-requires-clause-hangs c =
    judged_there c.args.self.now c.args.pair (rule_name c.args.rule) c.args.node Open
    (λ r. under_open r c.in-Unread.unread ∙ ap (holding_at r) (sym c.in-Unread.is) ∙ c.in_ok-holding.ensures.exact r)

pub returns-in-Holds : goal.returns-in-Holds
returns-in-Holds c =
    let layout = c.args.self.now in
    let p = c.args.pair in
    let rule = rule_name c.args.rule in
    held_lists layout p (own rule c.args.node) c.args.listing.now
    (λ less more over around. own_raised layout.schema (item_at layout p.item) (c.hangs_on_carried.ensures.rules layout.schema) less more over around rule c.args.node)
    (judged_there layout p rule c.args.node Holds (λ r. under_holds r ∙ ap (holding_at r) (sym c.in-Holds.is) ∙ c.in_ok-holding.ensures.exact r))
