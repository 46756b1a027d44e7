use Rattle.std.proofs.Common.{◌≡◌, List, false, refl, sym, ap, ◌∙◌, subst}
use Rattle.std.specs.List.{flat_map}
use Rattle.fhir_nodes.specs.declared.node.NodeRef.{NodeRef}
use Rattle.fhir_facets.specs.Carried.{target_unread}
use Rattle.fhir_facets.specs.Unread.{strict, meaning_of}
use Rattle.fhir_facets.specs.Views.{unread_seen, holding_at, IsVouched, IsCarried}
use Rattle.fhir_conformance.specs.Conformance.{entry_allows}
use Rattle.fhir_conformance.specs.Meeting.{entry_unread}
use Rattle.fhir_validator.specs.declared.judgement.Judgement.TheVariants.{Given, Open}
use Rattle.fhir_validator.specs.Layouts.{item_at}
use Rattle.fhir_validator.specs.Listing.{IsBetween, RuleIsTold, Grown, Settles}
use Rattle.fhir_validator.proofs.Resting.{AreTold}
use Rattle.fhir_validator.proofs.Told.{on_both}
use Rattle.fhir_validator.proofs.Unsettled.{grows_listed, hangs_so, unless_open, unless_given, unless_hanging, settled_open, settled_given, allows_unless, types_hang, has_some, carried_entry, carried_target}
use Rattle.fhir_validator.proofs.judging.Judge.open_targets.Goals as goal

pub put_site-requires : goal.put_site-requires
put_site-requires c =
    let layout = c.args.self.now in
    let s = layout.schema in
    let p = c.args.pair in
    let x = item_at layout p.item in
    let e = c.args.entry.now in
    let w = c.args.listing.now.wanted in
    let wanted : w ≡ Open = sym c.wanted.ensures ∙ c.in-Open-Unread.is-0 in
    let u = unread_seen c.in-Open-Unread.unread in
    let carried = subst (IsCarried (entry_unread s x e)) c.in-Open-Unread.is-1 c.entry.ensures.carried in
    let other = subst (IsVouched layout.given) c.in-Open-Unread.is-1 c.entry.ensures.vouched in
    types_hang layout w p u c.requires.hanging (carried_entry s x p.node e u c.requires.among carried) (subst (λ w. IsBetween layout.given w u) (sym wanted) (refl, other))

pub put_targets-requires : goal.put_targets-requires
put_targets-requires c = λ u has given.
    let layout = c.args.self.now in
    let s = layout.schema in
    let p = c.args.pair in
    let x = item_at layout p.item in
    let e = c.args.entry.now in
    let w = c.args.listing.now.wanted in
    let wanted : w ≡ Given = sym c.wanted.ensures ∙ c.in-Given-Given.is-0 in
    let fails : entry_allows s (meaning_of layout.given strict) x e ≡ false = sym (c.entry.ensures.exact strict) ∙ ap (holding_at strict) c.in-Given-Given.is-1 in
    types_hang layout w p u c.requires.hanging
    (carried_target s x p.node e u c.requires.among c.requires.covered (has_some s (meaning_of layout.given strict) x e c.requires.covered fails) has)
    (subst (λ w. IsBetween layout.given w u) (sym wanted) (given, refl))

pub returns-in-Open-Unread : goal.returns-in-Open-Unread
returns-in-Open-Unread c =
    let layout = c.args.self.now in
    let p = c.args.pair in
    let e = c.args.entry.now in
    let old = c.args.listing.now in
    let new = c.put_site.new.listing in
    let u = unread_seen c.in-Open-Unread.unread in
    let wanted : old.wanted ≡ Open = sym c.wanted.ensures ∙ c.in-Open-Unread.is-0 in
    record {
      settles = on_both (RuleIsTold layout new u) (Grown layout p old new)
          ((roots : List NodeRef) → Settles layout p (λ m f. entry_allows layout.schema m (item_at layout p.item) e) old new roots roots)
          (λ told grown roots. record {
            grows = grows_listed layout p old new roots grown;
            settled = settled_open layout p (λ m f. entry_allows layout.schema m (item_at layout p.item) e) u new roots (grown.wanted ∙ wanted) told;
          }) c.put_site.result c.put_site.ensures.told c.put_site.ensures.grown;
    }

pub returns-in-Given-Given : goal.returns-in-Given-Given
returns-in-Given-Given c =
    let layout = c.args.self.now in
    let p = c.args.pair in
    let e = c.args.entry.now in
    let old = c.args.listing.now in
    let new = c.put_targets.new.listing in
    let wanted : old.wanted ≡ Given = sym c.wanted.ensures ∙ c.in-Given-Given.is-0 in
    record {
      settles = on_both (AreTold layout new (flat_map (target_unread layout.schema) e.targets)) (Grown layout p old new)
          ((roots : List NodeRef) → Settles layout p (λ m f. entry_allows layout.schema m (item_at layout p.item) e) old new roots roots)
          (λ told grown roots. record {
            grows = grows_listed layout p old new roots grown;
            settled = settled_given layout p (c.hangs_on_carried.ensures.entries layout.schema) e new roots (grown.wanted ∙ wanted) told;
          }) c.put_targets.result c.put_targets.ensures.told c.put_targets.ensures.grown;
    }

pub returns-in_default : goal.returns-in_default
returns-in_default c =
    let layout = c.args.self.now in
    let h = c.entry.result in
    let other : hangs_so c.args.listing.now.wanted h ≡ false = ap (λ w. hangs_so w h) (sym c.wanted.ensures) ∙ unless_open c.wanted.result h c.in_default.is-0 c.in_default.not-Unread-1 in
    record { settles = allows_unless layout c.args.pair c.args.entry.now (c.hangs_on_carried.ensures.entries layout.schema) h c.args.listing.now c.entry.ensures.exact other }

pub returns-in_default-2 : goal.returns-in_default-2
returns-in_default-2 c =
    let layout = c.args.self.now in
    let h = c.entry.result in
    let other : hangs_so c.args.listing.now.wanted h ≡ false = ap (λ w. hangs_so w h) (sym c.wanted.ensures) ∙ unless_given c.wanted.result h c.in_default.is-0 c.in_default.not-Given-1 in
    record { settles = allows_unless layout c.args.pair c.args.entry.now (c.hangs_on_carried.ensures.entries layout.schema) h c.args.listing.now c.entry.ensures.exact other }

pub returns-in_default-3 : goal.returns-in_default-3
returns-in_default-3 c =
    let layout = c.args.self.now in
    let h = c.entry.result in
    let other : hangs_so c.args.listing.now.wanted h ≡ false = ap (λ w. hangs_so w h) (sym c.wanted.ensures) ∙ unless_hanging c.wanted.result h c.in_default.not-Open-0 c.in_default.not-Given-0 in
    record { settles = allows_unless layout c.args.pair c.args.entry.now (c.hangs_on_carried.ensures.entries layout.schema) h c.args.listing.now c.entry.ensures.exact other }
