use Rattle.std.proofs.Common.{◌≡◌, false, true, sym, ap, subst, ◌∙◌, length, map, arith}
use Rattle.fhir_certificate.specs.declared.pair.Pair.TheVariants.{Item}
use Rattle.fhir_cert_check.specs.PairSet.{has_pair}
use Rattle.fhir_cert_check.specs.Rules.{failing_rule}
use Rattle.fhir_cert_check.specs.Asked.{asked_for}
use Rattle.fhir_derive_check.specs.Finding.{is_in, IsDiscovery}
use Rattle.fhir_derive_check.specs.Outcomes.{IsSettled}
use Rattle.fhir_derive_check.specs.Pruning.{wrong_seen, all_failing}
use Rattle.fhir_derive_check.proofs.Certified.{all-asked, all-derived, none-wrong, refusal, met-derived}
use Rattle.fhir_derive_check.proofs.derivation.outcome.Goals as goal

pub returns-then-is_empty : goal.returns-then-is_empty
returns-then-is_empty c =
    let s = c.args.schema.now in
    let found = c.in_ok-found.found.order.items in
    let wrongs = c.in_ok-wrongs.wrongs.items in
    let empty : length wrongs ≡ 0 = grind (arith, c.is_empty.ensures, c.if-is_empty.true) in
    all-derived s c.args.derived.now c.args.base.now c.args.roots found c.deref.result.now c.in_ok-found.found.live c.in_ok-certificate.certificate c.more_pairs.ensures
    (all-asked s (Item c.args.roots) found c.in_ok-found.ensures.order) c.in_ok-found.ensures.live
    (none-wrong wrongs _ empty c.in_ok-wrongs.ensures) c.deref.ensures.value c.in_ok-certificate.ensures

-- what was found before the pairs fell is the list that is left
pub named_wrong-requires-clause-discovery : goal.named_wrong-requires-clause-discovery
named_wrong-requires-clause-discovery c =
    let s = c.args.schema.now in
    let root = Item c.args.roots in
    subst (λ order. IsDiscovery (asked_for s) root order.items) (sym c.in_ok-prune.ensures.order)
    (all-asked s root c.in_ok-found.found.order.items c.in_ok-found.ensures.order)

pub named_wrong-requires-clause-settled : goal.named_wrong-requires-clause-settled
named_wrong-requires-clause-settled c =
    let s = c.args.schema.now in
    let root = Item c.args.roots in
    let discovery = all-asked s root c.in_ok-found.found.order.items c.in_ok-found.ensures.order in
    subst (λ order. IsSettled s order.items (has_pair c.prune.new.found.live)) (sym c.in_ok-prune.ensures.order)
    (c.in_ok-prune.ensures.settled root discovery (ap (map wrong_seen) c.deref-2.ensures.value ∙ c.in_ok-wrongs.ensures))

pub named_wrong-requires-clause-all : goal.named_wrong-requires-clause-all
named_wrong-requires-clause-all c =
    let s = c.args.schema.now in
    let found = c.in_ok-found.found.order.items in
    let counts : has_pair c.in_ok-found.found.live ≡ is_in found = λ j p. c.in_ok-found.ensures.live p j in
    ap (map wrong_seen) c.deref-then-not-has.ensures.value ∙ c.in_ok-wrongs.ensures ∙ ap (λ live. all_failing (failing_rule live s) found) counts
    ∙ ap (λ order. all_failing (failing_rule (is_in order.items) s) order.items) (sym c.in_ok-prune.ensures.order)

pub named_wrong-requires-clause-fallen : goal.named_wrong-requires-clause-fallen
named_wrong-requires-clause-fallen c = grind (arith, c.has.ensures, c.if-not-has.true)

pub named_wrong-requires-clause-some : goal.named_wrong-requires-clause-some
named_wrong-requires-clause-some c = grind (arith, c.is_empty.ensures, c.if-is_empty.false)

pub returns-then-not-has : goal.returns-then-not-has
returns-then-not-has c =
    let s = c.args.schema.now in
    let root = Item c.args.roots in
    let order = c.prune.new.found.order.items in
    let live = c.prune.new.found.live in
    let discovery = subst (λ order. IsDiscovery (asked_for s) root order.items) (sym c.in_ok-prune.ensures.order)
    (all-asked s root c.in_ok-found.found.order.items c.in_ok-found.ensures.order)
    in
    let settled = c.in_ok-prune.ensures.settled root (all-asked s root c.in_ok-found.found.order.items c.in_ok-found.ensures.order)
    (ap (map wrong_seen) c.deref-2.ensures.value ∙ c.in_ok-wrongs.ensures)
    in
    let gone : has_pair live root ≡ false = grind (arith, c.has.ensures, c.if-not-has.true) in
    refusal c.args.named s c.args.roots order (has_pair live) _ _ discovery c.in_ok-pair.ensures
    (subst (λ order. IsSettled s order.items (has_pair live)) (sym c.in_ok-prune.ensures.order) settled) gone

pub returns : goal.returns
returns c =
    let s = c.args.schema.now in
    let root = Item c.args.roots in
    let found = c.in_ok-found.found.order.items in
    let live = c.prune.new.found.live in
    let discovery = all-asked s root found c.in_ok-found.ensures.order in
    let here : has_pair live root ≡ true = grind (arith, c.has.ensures, c.if-not-has.false) in
    met-derived s c.args.derived.now c.args.base.now c.args.roots found c.deref-3.result.now c.in_ok-met.met.order.items live c.in_ok-met.met.live
    c.in_ok-certificate-2.certificate c.more_pairs.ensures discovery
    (c.in_ok-prune.ensures.settled root discovery (ap (map wrong_seen) c.deref-2.ensures.value ∙ c.in_ok-wrongs.ensures)) here
    c.in_ok-met.ensures.order c.in_ok-met.ensures.live
    (c.deref-3.ensures.value ∙ ap (λ v. v.items) c.in_ok-prune.ensures.order) c.in_ok-certificate-2.ensures
