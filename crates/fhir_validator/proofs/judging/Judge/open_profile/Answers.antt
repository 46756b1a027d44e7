use Rattle.std.proofs.Common.{◌≡◌, List, Some, sym, ap, ◌∙◌}
use Rattle.fhir_nodes.specs.declared.node.NodeRef.{NodeRef}
use Rattle.fhir_schema.specs.Schemas.{loaded}
use Rattle.fhir_conformance.specs.Conformance.{profile_holds}
use Rattle.fhir_validator.specs.Layouts.{item_at}
use Rattle.fhir_validator.specs.Listing.{Settles}
use Rattle.fhir_validator.proofs.Told.{on_ok}
use Rattle.fhir_validator.proofs.Unsettled.{settled_loaded}
use Rattle.fhir_validator.proofs.judging.Judge.open_profile.Goals as goal

pub open_root-requires : goal.open_root-requires
open_root-requires c =
    let is : loaded c.args.self.now.schema c.args.canonical.now ≡ Some c.in-Some.root = sym (c.in-Some.ensures ∙ ap (λ s. loaded s c.args.canonical.now) c.schema.ensures) in
    c.requires.asked c.in-Some.root is

pub open_unread-requires-clause-unread : goal.open_unread-requires-clause-unread
open_unread-requires-clause-unread c = sym (c.in-None.ensures ∙ ap (λ s. loaded s c.args.canonical.now) c.schema.ensures)

pub returns-in-Some-clause-settles : goal.returns-in-Some-clause-settles
returns-in-Some-clause-settles c =
    let layout = c.args.self.now in
    let p = c.args.pair in
    let x = item_at layout p.item in
    let listing = c.args.listing.now in
    let roots = c.args.roots.now.items in
    let more = c.open_root.new.roots.items in
    let is : loaded layout.schema c.args.canonical.now ≡ Some c.in-Some.root = sym (c.in-Some.ensures ∙ ap (λ s. loaded s c.args.canonical.now) c.schema.ensures) in
    on_ok (Settles layout p (λ m f. f c.in-Some.root) listing listing roots more)
    (Settles layout p (λ m f. profile_holds layout.schema m f x c.args.canonical.now) listing listing roots more)
    (λ h. record { grows = h.grows; settled = settled_loaded layout p x c.args.canonical.now c.in-Some.root listing more is h.settled })
    c.open_root.result (c.open_root.ensures.settles listing (sym c.wanted.ensures))

pub returns-in-None-clause-settles : goal.returns-in-None-clause-settles
returns-in-None-clause-settles c =
    let layout = c.args.self.now in
    let p = c.args.pair in
    let x = item_at layout p.item in
    let old = c.args.listing.now in
    let new = c.open_unread.new.listing in
    let roots = c.args.roots.now.items in
    on_ok ((roots : List NodeRef) → Settles layout p (λ m f. profile_holds layout.schema m f x c.args.canonical.now) old new roots roots)
    (Settles layout p (λ m f. profile_holds layout.schema m f x c.args.canonical.now) old new roots roots)
    (λ h. h roots) c.open_unread.result c.open_unread.ensures.settles
