use Rattle.std.proofs.Common.{◌≡◌, [], take, sym, subst, ap, ◌∙◌}
use Rattle.std.specs.List.{Contains, list_any}
use Rattle.std.proofs.lemmas.List.{take_all}
use Rattle.std.proofs.lemmas.List.Elements.{Contains-get_or}
use Rattle.fhir_schema.specs.Schemas.{types}
use Rattle.fhir_conformance.specs.Conformance.{entry_holds}
use Rattle.fhir_validator.specs.Layouts.{item_at}
use Rattle.fhir_validator.specs.Listing.{AreHanging, IsSettled, Settles}
use Rattle.fhir_validator.proofs.Unsettled.{grows_more, settled_since, settled_more}
use Rattle.fhir_validator.proofs.judging.Judge.open_roots.Goals as goal

pub open_if_hanging-requires-clause-hanging : goal.open_if_hanging-requires-clause-hanging
open_if_hanging-requires-clause-hanging c =
    let layout = c.args.self.now in
    let now : AreHanging layout c.loop-entry.listing.wanted c.args.pair =
    subst (λ w. AreHanging layout w c.args.pair) (sym c.loop-entry.invariant.settles.grows.grown.wanted) c.requires in
    rw c.loop-entry.invariant.same now

pub open_if_hanging-requires-clause-among : goal.open_if_hanging-requires-clause-among
open_if_hanging-requires-clause-among c =
    let xs = c.types-entries.result.now in
    let entries : xs ≡ types c.args.self.now.schema c.args.pair.node = c.types-entries.ensures ∙ ap (λ s. types s c.args.pair.node) c.schema.ensures in
    let among : Contains (types c.args.self.now.schema c.args.pair.node) c.entry-item.result =
    subst (λ es. Contains es c.entry-item.result) entries
    (subst (Contains xs) (sym c.entry-item.is) (Contains-get_or xs c.loop-entry.entry-index c.entry-item.result c.loop-entry-test.true)) in
    rw c.loop-entry.invariant.same among

pub loop-entry-preserved : goal.loop-entry-preserved
loop-entry-preserved c =
    let layout = c.args.self.now in
    let s = layout.schema in
    let p = c.args.pair in
    let x = item_at layout p.item in
    let old = c.loop-entry.listing in
    let new = c.open_if_hanging.new.listing in
    let roots = c.loop-entry.roots.items in
    let more = c.open_if_hanging.new.roots.items in
    let xs = c.types-entries.result.now in
    let i = c.loop-entry.entry-index in
    let here : Settles layout p (λ m f. entry_holds s m f x c.entry-item.result) old new roots more = rw c.loop-entry.invariant.same at c.in_ok-open_if_hanging.ensures.settles in
    record {
      same = c.in_ok-open_if_hanging.ensures.same ∙ c.loop-entry.invariant.same;
      settles = record {
        grows = grows_more layout p c.args.listing.now old new [] roots more c.loop-entry.invariant.settles.grows here.grows;
        settled =
            settled_more layout p (λ m f. entry_holds s m f x) xs i c.entry-item.result new more c.loop-entry-test.true c.entry-item.is
            (settled_since layout p (λ m f. list_any (entry_holds s m f x) (take i xs)) old new roots more here.grows c.loop-entry.invariant.settles.settled) here.settled;
      };
    }

pub returns-clause-settles : goal.returns-clause-settles
returns-clause-settles c =
    let layout = c.args.self.now in
    let s = layout.schema in
    let p = c.args.pair in
    let x = item_at layout p.item in
    let xs = c.types-entries.result.now in
    let entries : take c.loop-entry.entry-index xs ≡ types s p.node =
    take_all c.loop-entry.entry-index xs c.loop-entry-test.false ∙ c.types-entries.ensures ∙ ap (λ s. types s p.node) c.schema.ensures in
    record {
      grows = c.loop-entry.invariant.settles.grows;
      settled = subst (λ es. IsSettled layout p (λ m f. list_any (entry_holds s m f x) es) c.loop-entry.listing c.loop-entry.roots.items) entries c.loop-entry.invariant.settles.settled;
    }
