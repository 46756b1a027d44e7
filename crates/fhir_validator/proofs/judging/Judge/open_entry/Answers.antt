use Rattle.std.proofs.Common.{sym, subst}
use Rattle.fhir_conformance.specs.Conformance.{entry_allows, entry_holds, profiles_hold}
use Rattle.fhir_validator.specs.Layouts.{item_at}
use Rattle.fhir_validator.specs.Listing.{IsEntry, Settles}
use Rattle.fhir_validator.proofs.Told.{on_ok}
use Rattle.fhir_validator.proofs.Unsettled.{grows_more, settled_since, settled_both}
use Rattle.fhir_validator.proofs.judging.Judge.open_entry.Goals as goal

pub open_hanging_profiles-requires : goal.open_hanging_profiles-requires
open_hanging_profiles-requires c =
    subst (λ w. IsEntry c.args.self.now w c.args.pair c.args.entry.now) (sym (c.in_ok-open_targets.ensures.settles c.args.roots.now.items).grows.grown.wanted) c.requires

pub returns-clause-settles : goal.returns-clause-settles
returns-clause-settles c =
    let layout = c.args.self.now in
    let s = layout.schema in
    let p = c.args.pair in
    let x = item_at layout p.item in
    let e = c.args.entry.now in
    let old = c.args.listing.now in
    let mid = c.open_targets.new.listing in
    let new = c.open_hanging_profiles.new.listing in
    let roots = c.args.roots.now.items in
    let more = c.open_hanging_profiles.new.roots.items in
    let first = c.in_ok-open_targets.ensures.settles roots in
    on_ok (Settles layout p (λ m f. profiles_hold s m f x e.profiles) mid new roots more) (Settles layout p (λ m f. entry_holds s m f x e) old new roots more)
    (λ h. record {
      grows = grows_more layout p old mid new roots roots more first.grows h.grows;
      settled = settled_both layout p (λ m f. entry_allows s m x e) (λ m f. profiles_hold s m f x e.profiles) new more
          (settled_since layout p (λ m f. entry_allows s m x e) mid new roots more h.grows first.settled) h.settled;
    }) c.open_hanging_profiles.result c.open_hanging_profiles.ensures.settles
