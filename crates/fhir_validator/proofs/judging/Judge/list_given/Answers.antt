use Rattle.std.proofs.Common.{◌≡◌, false, refl, sym, ap, ◌∙◌, subst}
use Rattle.std.specs.Prelude.{OnOk}
use Rattle.fhir_facets.specs.Views.{unread_seen}
use Rattle.fhir_conformance.specs.Asks.{own, range}
use Rattle.fhir_conformance.specs.Meeting.{rule_unread}
use Rattle.fhir_conformance.specs.Views.{rule_name}
use Rattle.fhir_validator.specs.declared.judgement.Judgement.TheVariants.{Given}
use Rattle.fhir_validator.specs.Judgements.{same_judgement}
use Rattle.fhir_validator.specs.Judging.{IsRightOf}
use Rattle.fhir_validator.specs.Layouts.{item_at}
use Rattle.fhir_validator.specs.Listing.{IsAskedBy, RuleIsTold, Grown, Lists}
use Rattle.fhir_validator.proofs.Raising.{own_raised}
use Rattle.fhir_validator.proofs.Resting.{AreTold, own_hangs, given_lists, other_given, one_carried, not_range}
use Rattle.fhir_validator.proofs.Told.{on_both, same_is, lists_other}
use Rattle.fhir_validator.proofs.judging.Judge.list_given.Goals as goal

pub put_bounds-requires : goal.put_bounds-requires
put_bounds-requires c = λ u has given.
    let layout = c.args.self.now in
    let p = c.args.pair in
    let n = c.args.node in
    let old = c.args.listing.now in
    let wanted : old.wanted ≡ Given = same_is old.wanted Given (ap (λ w. same_judgement w Given) (sym c.wanted.ensures) ∙ sym c.is.ensures ∙ c.if-not-is.false) in
    own_hangs layout p old.wanted Given range n n u wanted refl refl
    (subst (λ rule. IsAskedBy layout p (own (rule_name rule) n)) c.in-Range.is c.requires.asked.asked)
    (subst (λ rule. IsRightOf layout p (own (rule_name rule) n) Given) c.in-Range.is c.requires.hangs) has (given, refl)

pub put_site-requires : goal.put_site-requires
put_site-requires c =
    let layout = c.args.self.now in
    let p = c.args.pair in
    let old = c.args.listing.now in
    let wanted : old.wanted ≡ Given = same_is old.wanted Given (ap (λ w. same_judgement w Given) (sym c.wanted.ensures) ∙ sym c.is.ensures ∙ c.if-not-is.false) in
    own_hangs layout p old.wanted Given (rule_name c.args.rule) c.args.node c.told_at.result (unread_seen c.args.unread) wanted refl c.told_at.ensures
    c.requires.asked.asked c.requires.hangs c.requires.carried (c.requires.vouched, refl)

pub returns-then-not-is : goal.returns-then-not-is
returns-then-not-is c =
    let layout = c.args.self.now in
    let p = c.args.pair in
    let rule = rule_name c.args.rule in
    let old = c.args.listing.now in
    let other : same_judgement old.wanted Given ≡ false = ap (λ w. same_judgement w Given) (sym c.wanted.ensures) ∙ sym c.is.ensures ∙ c.if-not-is.true in
    lists_other layout p (own rule c.args.node) old Given
    (λ less more over around. own_raised layout.schema (item_at layout p.item) (c.hangs_on_carried.ensures.rules layout.schema) less more over around rule c.args.node)
    c.requires.asked c.requires.hangs (other_given old.wanted other)

pub returns-in-Range : goal.returns-in-Range
returns-in-Range c =
    let layout = c.args.self.now in
    let p = c.args.pair in
    let n = c.args.node in
    let old = c.args.listing.now in
    let new = c.put_bounds.new.listing in
    let wanted : old.wanted ≡ Given = same_is old.wanted Given (ap (λ w. same_judgement w Given) (sym c.wanted.ensures) ∙ sym c.is.ensures ∙ c.if-not-is.false) in
    let hangs = subst (λ rule. IsRightOf layout p (own (rule_name rule) n) Given) c.in-Range.is c.requires.hangs in
    subst (λ rule. OnOk c.put_bounds.result (Lists layout p (own (rule_name rule) n) old new)) (sym c.in-Range.is)
    (on_both (AreTold layout new (rule_unread layout.schema (item_at layout p.item) range n)) (Grown layout p old new) (Lists layout p (own range n) old new)
    (given_lists layout p old new (c.hangs_on_carried.ensures.rules layout.schema) range n wanted hangs)
    c.put_bounds.result c.put_bounds.ensures.told c.put_bounds.ensures.grown)

pub returns-in_default : goal.returns-in_default
returns-in_default c =
    let layout = c.args.self.now in
    let p = c.args.pair in
    let rule = rule_name c.args.rule in
    let n = c.args.node in
    let old = c.args.listing.now in
    let new = c.put_site.new.listing in
    let x = item_at layout p.item in
    let unread = unread_seen c.args.unread in
    let wanted : old.wanted ≡ Given = same_is old.wanted Given (ap (λ w. same_judgement w Given) (sym c.wanted.ensures) ∙ sym c.is.ensures ∙ c.if-not-is.false) in
    on_both (RuleIsTold layout new unread) (Grown layout p old new) (Lists layout p (own rule n) old new)
    (λ told. given_lists layout p old new (c.hangs_on_carried.ensures.rules layout.schema) rule n wanted c.requires.hangs
    (λ u has given. subst (RuleIsTold layout new) (sym (one_carried layout.schema x rule n (not_range c.args.rule c.in_default.not-Range) unread u c.requires.carried has)) told))
    c.put_site.result c.put_site.ensures.told c.put_site.ensures.grown
