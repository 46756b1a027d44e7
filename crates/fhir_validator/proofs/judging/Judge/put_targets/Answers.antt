use Rattle.std.proofs.Common.{◌≡◌, string_bytes, sym, ◌∙◌, subst}
use Rattle.std.specs.List.{Contains}
use Rattle.std.proofs.lemmas.List.Elements.{Contains-get_or}
use Rattle.fhir_facets.specs.Carried.{target_unread}
use Rattle.fhir_facets.specs.Views.{rules_in}
use Rattle.fhir_validator.proofs.Asking.{contains_gathered, contains_mapped}
use Rattle.fhir_validator.proofs.Resting.{AreHung, AreTold, hung_since, targets_more, targets_told}
use Rattle.fhir_validator.proofs.Told.{grown_none, grown_more}
use Rattle.fhir_validator.proofs.judging.Judge.put_targets.Goals as goal

pub put_given-requires : goal.put_given-requires
put_given-requires c =
    let layout = c.args.self.now in
    let s = layout.schema in
    let p = c.args.pair in
    let e = c.args.entry.now in
    let old = c.args.listing.now in
    let xs = c.targets-target-items.result.now in
    let i = c.loop-target.target-index in
    let target = c.target-item.result in
    let named : Contains e.targets (string_bytes target) =
    subst (λ ts. Contains ts (string_bytes target)) c.targets-target-items.ensures
    (contains_mapped string_bytes xs target (subst (Contains xs) (sym c.target-item.is) (Contains-get_or xs i target c.loop-target-test.true))) in
    let are : rules_in c.of_target-unread.result ≡ target_unread s (string_bytes target) =
    c.of_target-unread.ensures ∙ (λ j. target_unread (c.schema.ensures j) (c.as_str.ensures.value j)) in
    let hung : AreHung layout old.wanted p p.node (target_unread s (string_bytes target)) =
    λ u has. c.requires u (contains_gathered (target_unread s) e.targets (string_bytes target) u named has) in
    hung_since layout p p.node old.wanted c.loop-target.listing.wanted (rules_in c.of_target-unread.result) c.loop-target.invariant.grown.wanted
    (subst (AreHung layout old.wanted p p.node) (sym are) hung)

pub loop-target-preserved : goal.loop-target-preserved
loop-target-preserved c =
    let layout = c.args.self.now in
    let s = layout.schema in
    let p = c.args.pair in
    let old = c.loop-target.listing in
    let new = c.put_given.new.listing in
    let target = c.target-item.result in
    let are : rules_in c.of_target-unread.result ≡ target_unread s (string_bytes target) =
    c.of_target-unread.ensures ∙ (λ j. target_unread (c.schema.ensures j) (c.as_str.ensures.value j)) in
    record {
      told = targets_more layout p old new c.targets-target-items.result.now c.loop-target.target-index target c.loop-target-test.true c.target-item.is c.in_ok-put_given.ensures.grown c.loop-target.invariant.told
          (subst (AreTold layout new) are c.in_ok-put_given.ensures.told);
      grown = grown_more layout p c.args.listing.now old new c.loop-target.invariant.grown c.in_ok-put_given.ensures.grown;
    }

pub loop-target-init : goal.loop-target-init
loop-target-init c = record { told = tt; grown = grown_none c.args.self.now c.args.pair c.args.listing.now }

pub returns-clause-told : goal.returns-clause-told
returns-clause-told c =
    targets_told c.args.self.now c.loop-target.listing c.targets-target-items.result.now c.args.entry.now.targets c.loop-target.target-index c.loop-target-test.false c.targets-target-items.ensures c.loop-target.invariant.told
