use Rattle.std.proofs.Common.{take, string_bytes, sym, ◌∙◌, subst}
use Rattle.std.specs.List.{Contains, list_any}
use Rattle.std.proofs.lemmas.List.Elements.{Contains-get_or}
use Rattle.fhir_facets.specs.Unread.{profile as unread_profile}
use Rattle.fhir_conformance.specs.Conformance.{profile_holds}
use Rattle.fhir_validator.specs.Layouts.{item_at}
use Rattle.fhir_validator.specs.Listing.{IsNamedBy, IsSettled, Settles}
use Rattle.fhir_validator.proofs.Asking.{asked_profile, contains_mapped}
use Rattle.fhir_validator.proofs.Unsettled.{grows_more, settled_since, settled_more, settled_profiles, carried_profile, types_hang}
use Rattle.fhir_validator.proofs.judging.Judge.open_profiles.Goals as goal

pub open_profile-requires : goal.open_profile-requires
open_profile-requires c =
    let layout = c.args.self.now in
    let s = layout.schema in
    let p = c.args.pair in
    let x = item_at layout p.item in
    let e = c.args.entry.now in
    let w = c.args.listing.now.wanted in
    let xs = c.profiles-profiles.result.now in
    let i = c.loop-profile.profile-index in
    let profile = c.profile-item.result in
    let hanging = c.requires.hanging in
    let named : Contains e.profiles c.as_str.result.now =
    subst (Contains e.profiles) (sym c.as_str.ensures.value)
    (subst (λ ps. Contains ps (string_bytes profile)) c.profiles-profiles.ensures
    (contains_mapped string_bytes xs profile (subst (Contains xs) (sym c.profile-item.is) (Contains-get_or xs i profile c.loop-profile-test.true)))) in
    let is : IsNamedBy layout w p c.as_str.result.now = record {
      hanging = λ absent.
          types_hang layout w p (unread_profile c.as_str.result.now) hanging (carried_profile s x p.node e c.as_str.result.now c.requires.among c.requires.covered named absent);
      asked = λ root is. asked_profile s x p.node e c.as_str.result.now root hanging.inner c.requires.among c.requires.covered named is;
    } in
    let now : IsNamedBy layout c.loop-profile.listing.wanted p c.as_str.result.now =
    subst (λ w. IsNamedBy layout w p c.as_str.result.now) (sym c.loop-profile.invariant.settles.grows.grown.wanted) is in
    rw c.loop-profile.invariant.same now

pub loop-profile-preserved : goal.loop-profile-preserved
loop-profile-preserved c =
    let layout = c.args.self.now in
    let s = layout.schema in
    let p = c.args.pair in
    let x = item_at layout p.item in
    let old = c.loop-profile.listing in
    let new = c.open_profile.new.listing in
    let roots = c.loop-profile.roots.items in
    let more = c.open_profile.new.roots.items in
    let profile = c.profile-item.result in
    let xs = c.profiles-profiles.result.now in
    let i = c.loop-profile.profile-index in
    let here : Settles layout p (λ m f. profile_holds s m f x c.as_str.result.now) old new roots more = rw c.loop-profile.invariant.same at c.in_ok-open_profile.ensures.settles in
    record {
      same = c.in_ok-open_profile.ensures.same ∙ c.loop-profile.invariant.same;
      settles = record {
        grows = grows_more layout p c.args.listing.now old new c.args.roots.now.items roots more c.loop-profile.invariant.settles.grows here.grows;
        settled =
            settled_more layout p (λ m f q. profile_holds s m f x (string_bytes q)) xs i profile new more c.loop-profile-test.true c.profile-item.is
            (settled_since layout p (λ m f. list_any (λ q. profile_holds s m f x (string_bytes q)) (take i xs)) old new roots more here.grows c.loop-profile.invariant.settles.settled)
            (subst (λ name. IsSettled layout p (λ m f. profile_holds s m f x name) new more) c.as_str.ensures.value here.settled);
      };
    }

pub returns-clause-settles : goal.returns-clause-settles
returns-clause-settles c =
    let layout = c.args.self.now in
    let p = c.args.pair in
    record {
      grows = c.loop-profile.invariant.settles.grows;
      settled =
          settled_profiles layout p (item_at layout p.item) c.profiles-profiles.result.now c.args.entry.now.profiles c.loop-profile.profile-index c.loop-profile.listing c.loop-profile.roots.items
          c.loop-profile-test.false c.profiles-profiles.ensures c.loop-profile.invariant.settles.settled;
    }
