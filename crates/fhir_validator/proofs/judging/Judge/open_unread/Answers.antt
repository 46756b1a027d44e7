use Rattle.std.proofs.Common.{◌≡◌, List, [], ◌∷◌, false, sym, ap, ◌∙◌, subst}
use Rattle.fhir_nodes.specs.declared.node.NodeRef.{NodeRef}
use Rattle.fhir_facets.specs.declared.holding.Holding.TheVariants as holdings
use Rattle.fhir_facets.specs.Unread.{profile as unread_profile}
use Rattle.fhir_facets.specs.Views.{unread_seen, IsCarried}
use Rattle.fhir_conformance.specs.Conformance.{profile_holds}
use Rattle.fhir_validator.specs.declared.judgement.Judgement.TheVariants.{Given, Open}
use Rattle.fhir_validator.specs.Layouts.{item_at}
use Rattle.fhir_validator.specs.Listing.{is_hanging, IsHanging, RuleIsTold, Grown, Settles}
use Rattle.fhir_validator.proofs.Resting.{only_one}
use Rattle.fhir_validator.proofs.Told.{on_both}
use Rattle.fhir_validator.proofs.Unsettled.{hangs_so, unless_open, unless_given, unless_hanging, between_so, absent_told, absent_unless}
use Rattle.fhir_validator.proofs.judging.Judge.open_unread.Goals as goal

pub put_site-requires : goal.put_site-requires
put_site-requires c =
    let layout = c.args.self.now in
    let p = c.args.pair in
    let w = c.args.listing.now.wanted in
    let u = c.in-Open-Unread.unread in
    let rule = unread_profile c.args.canonical.now in
    let carried = subst (IsCarried (rule ∷ [])) c.in-Open-Unread.is-1 c.unread_profile.ensures.carried in
    let so : hangs_so w c.unread_profile.result ≡ hangs_so Open (holdings.Unread u) = λ j. hangs_so ((sym c.wanted.ensures ∙ c.in-Open-Unread.is-0) j) (c.in-Open-Unread.is-1 j) in
    subst (IsHanging layout w p p.node) (sym (only_one rule (unread_seen u) carried))
    (c.requires.named.hanging c.requires.unread (between_so layout.given w c.unread_profile.result rule so c.unread_profile.ensures.exact))

pub put_site-requires-in-Given-Given : goal.put_site-requires-in-Given-Given
put_site-requires-in-Given-Given c =
    let layout = c.args.self.now in
    let p = c.args.pair in
    let w = c.args.listing.now.wanted in
    let u = c.in-Given-Given.unread in
    let rule = unread_profile c.args.canonical.now in
    let carried = subst (IsCarried (rule ∷ [])) c.in-Given-Given.is-1 c.unread_profile.ensures.carried in
    let so : hangs_so w c.unread_profile.result ≡ hangs_so Given (holdings.Given u) = λ j. hangs_so ((sym c.wanted.ensures ∙ c.in-Given-Given.is-0) j) (c.in-Given-Given.is-1 j) in
    subst (IsHanging layout w p p.node) (sym (only_one rule (unread_seen u) carried))
    (c.requires.named.hanging c.requires.unread (between_so layout.given w c.unread_profile.result rule so c.unread_profile.ensures.exact))

pub returns-in-Open-Unread : goal.returns-in-Open-Unread
returns-in-Open-Unread c =
    let layout = c.args.self.now in
    let p = c.args.pair in
    let old = c.args.listing.now in
    let new = c.put_site.new.listing in
    let u = c.in-Open-Unread.unread in
    let rule = unread_profile c.args.canonical.now in
    let carried = subst (IsCarried (rule ∷ [])) c.in-Open-Unread.is-1 c.unread_profile.ensures.carried in
    let wanted : old.wanted ≡ Open = sym c.wanted.ensures ∙ c.in-Open-Unread.is-0 in
    record {
      settles = on_both (RuleIsTold layout new (unread_seen u)) (Grown layout p old new)
          ((roots : List NodeRef) → Settles layout p (λ m f. profile_holds layout.schema m f (item_at layout p.item) c.args.canonical.now) old new roots roots)
          (λ told. absent_told layout p c.args.canonical.now old new c.requires.unread (ap is_hanging wanted) (subst (RuleIsTold layout new) (only_one rule (unread_seen u) carried) told))
          c.put_site.result c.put_site.ensures.told c.put_site.ensures.grown;
    }

pub returns-in-Given-Given : goal.returns-in-Given-Given
returns-in-Given-Given c =
    let layout = c.args.self.now in
    let p = c.args.pair in
    let old = c.args.listing.now in
    let new = c.put_site-in-Given-Given.new.listing in
    let u = c.in-Given-Given.unread in
    let rule = unread_profile c.args.canonical.now in
    let carried = subst (IsCarried (rule ∷ [])) c.in-Given-Given.is-1 c.unread_profile.ensures.carried in
    let wanted : old.wanted ≡ Given = sym c.wanted.ensures ∙ c.in-Given-Given.is-0 in
    record {
      settles = on_both (RuleIsTold layout new (unread_seen u)) (Grown layout p old new)
          ((roots : List NodeRef) → Settles layout p (λ m f. profile_holds layout.schema m f (item_at layout p.item) c.args.canonical.now) old new roots roots)
          (λ told. absent_told layout p c.args.canonical.now old new c.requires.unread (ap is_hanging wanted) (subst (RuleIsTold layout new) (only_one rule (unread_seen u) carried) told))
          c.put_site-in-Given-Given.result c.put_site-in-Given-Given.ensures.told c.put_site-in-Given-Given.ensures.grown;
    }

pub returns-in_default : goal.returns-in_default
returns-in_default c =
    let layout = c.args.self.now in
    let h = c.unread_profile.result in
    let other : hangs_so c.args.listing.now.wanted h ≡ false = ap (λ w. hangs_so w h) (sym c.wanted.ensures) ∙ unless_open c.wanted.result h c.in_default.is-0 c.in_default.not-Unread-1 in
    record { settles = absent_unless layout c.args.pair c.args.canonical.now h c.args.listing.now c.requires.unread c.unread_profile.ensures.exact other }

pub returns-in_default-2 : goal.returns-in_default-2
returns-in_default-2 c =
    let layout = c.args.self.now in
    let h = c.unread_profile.result in
    let other : hangs_so c.args.listing.now.wanted h ≡ false = ap (λ w. hangs_so w h) (sym c.wanted.ensures) ∙ unless_given c.wanted.result h c.in_default.is-0 c.in_default.not-Given-1 in
    record { settles = absent_unless layout c.args.pair c.args.canonical.now h c.args.listing.now c.requires.unread c.unread_profile.ensures.exact other }

pub returns-in_default-3 : goal.returns-in_default-3
returns-in_default-3 c =
    let layout = c.args.self.now in
    let h = c.unread_profile.result in
    let other : hangs_so c.args.listing.now.wanted h ≡ false = ap (λ w. hangs_so w h) (sym c.wanted.ensures) ∙ unless_hanging c.wanted.result h c.in_default.not-Open-0 c.in_default.not-Given-0 in
    record { settles = absent_unless layout c.args.pair c.args.canonical.now h c.args.listing.now c.requires.unread c.unread_profile.ensures.exact other }
