use Rattle.std.proofs.Common.{◌≡◌, ◌∷◌, ◌++◌, [], map, string_bytes, sym, subst}
use Rattle.fhir_snapshot.specs.Chains.{Rests, IsChain, Starts}
use Rattle.fhir_snapshot.specs.Knowing.{Knows}
use Rattle.fhir_snapshot.proofs.Texts.{seen_snoc}
use Rattle.fhir_snapshot.proofs.Snapshotting.{chain_pop, starts_pop}
use Rattle.fhir_snapshot.proofs.knowing.climb.Goals as goal

pub learn_over-requires-clause-rests : goal.learn_over-requires-clause-rests
learn_over-requires-clause-rests c =
    let p = c.args.sources.now in
    let urls = map string_bytes c.pop.new.self.items in
    let next = string_bytes c.in-Some.next in
    let last = string_bytes c.loop-next.last in
    let shown = seen_snoc c.pop.new.self.items c.in-Some.next c.loop-next.urls.items c.in-Some.ensures.items in
    let chain = subst (λ xs. IsChain p (xs ++ last ∷ [])) shown c.loop-next.invariant.chain in
    let rests : Rests p next last = (chain_pop p urls next last chain).0 in
    subst (Rests p c.as_str.result.now) (sym c.as_str-in-Some.ensures.value) (subst (λ u. Rests p u last) (sym c.as_str.ensures.value) rests)

pub loop-next-preserved : goal.loop-next-preserved
loop-next-preserved c =
    let p = c.args.sources.now in
    let urls = map string_bytes c.pop.new.self.items in
    let next = string_bytes c.in-Some.next in
    let last = string_bytes c.loop-next.last in
    let shown = seen_snoc c.pop.new.self.items c.in-Some.next c.loop-next.urls.items c.in-Some.ensures.items in
    let chain = subst (λ xs. IsChain p (xs ++ last ∷ [])) shown c.loop-next.invariant.chain in
    let starts = subst (λ xs. Starts c.args.url.now (xs ++ last ∷ [])) shown c.loop-next.invariant.starts in
    record {
      holds = c.learn_over.ensures.holds;
      known = c.in_ok-learn_over.ensures.known;
      chain = (chain_pop p urls next last chain).1;
      starts = starts_pop urls next last c.args.url.now starts;
      knows = subst (Knows c.learn_over.new.known) c.as_str.ensures.value c.in_ok-learn_over.ensures.knows;
    }
