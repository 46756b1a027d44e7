use Rattle.std.proofs.Common.{◌≡◌, false, refl, sym, ap, ◌∙◌}
use Rattle.fhir_facets.specs.Views.{unread_seen}
use Rattle.fhir_conformance.specs.Asks.{own}
use Rattle.fhir_conformance.specs.Views.{rule_name}
use Rattle.fhir_validator.specs.declared.judgement.Judgement.TheVariants.{Open}
use Rattle.fhir_validator.specs.Judgements.{same_judgement}
use Rattle.fhir_validator.specs.Layouts.{item_at}
use Rattle.fhir_validator.specs.Listing.{RuleIsTold, Grown, Lists}
use Rattle.fhir_validator.proofs.Raising.{own_raised}
use Rattle.fhir_validator.proofs.Resting.{own_hangs, open_lists, other_open}
use Rattle.fhir_validator.proofs.Told.{on_both, same_is, lists_other}
use Rattle.fhir_validator.proofs.judging.Judge.list_open.Goals as goal

pub put_site-requires : goal.put_site-requires
put_site-requires c =
    let layout = c.args.self.now in
    let p = c.args.pair in
    let old = c.args.listing.now in
    let wanted : old.wanted ≡ Open = same_is old.wanted Open (ap (λ w. same_judgement w Open) (sym c.wanted.ensures) ∙ sym c.is.ensures ∙ c.if-is.true) in
    own_hangs layout p old.wanted Open (rule_name c.args.rule) c.args.node c.told_at.result (unread_seen c.args.unread) wanted refl c.told_at.ensures
    c.requires.asked.asked c.requires.hangs c.requires.carried (refl, c.requires.vouched)

pub returns-then-is : goal.returns-then-is
returns-then-is c =
    let layout = c.args.self.now in
    let p = c.args.pair in
    let ask = own (rule_name c.args.rule) c.args.node in
    let old = c.args.listing.now in
    let new = c.put_site.new.listing in
    let u = unread_seen c.args.unread in
    let wanted : old.wanted ≡ Open = same_is old.wanted Open (ap (λ w. same_judgement w Open) (sym c.wanted.ensures) ∙ sym c.is.ensures ∙ c.if-is.true) in
    on_both (RuleIsTold layout new u) (Grown layout p old new) (Lists layout p ask old new) (open_lists layout p old new ask u wanted)
    c.put_site.result c.put_site.ensures.told c.put_site.ensures.grown

pub returns-else-is : goal.returns-else-is
returns-else-is c =
    let layout = c.args.self.now in
    let p = c.args.pair in
    let rule = rule_name c.args.rule in
    let old = c.args.listing.now in
    let other : same_judgement old.wanted Open ≡ false = ap (λ w. same_judgement w Open) (sym c.wanted.ensures) ∙ sym c.is.ensures ∙ c.if-is.false in
    lists_other layout p (own rule c.args.node) old Open
    (λ less more over around. own_raised layout.schema (item_at layout p.item) (c.hangs_on_carried.ensures.rules layout.schema) less more over around rule c.args.node)
    c.requires.asked c.requires.hangs (other_open old.wanted other)
