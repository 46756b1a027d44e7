use Rattle.std.proofs.Common.{◌≡◌, ◌∷◌, ◌++◌, [], map, string_bytes, Some, option_map, sym, subst}
use Rattle.fhir_snapshot.specs.Chains.{Rests, IsChain, Starts}
use Rattle.fhir_snapshot.specs.Knowing.{Leads}
use Rattle.fhir_snapshot.proofs.Texts.{seen_snoc}
use Rattle.fhir_snapshot.proofs.Snapshotting.{chain_push, starts_push}
use Rattle.fhir_snapshot.proofs.knowing.chain.Goals as goal

pub loop-last-preserved : goal.loop-last-preserved
loop-last-preserved c =
    let p = c.args.sources.now in
    let urls = map string_bytes c.loop-last.urls.items in
    let last = string_bytes c.loop-last.last in
    let base = string_bytes c.in-Some.base in
    let more = seen_snoc c.loop-last.urls.items c.loop-last.last c.push.new.self.items c.in_ok-push.ensures.items in
    let leads : Leads p c.down.new.known c.as_str.result.now (option_map string_bytes (Some c.in-Some.base)) =
    subst (λ o. Leads p c.down.new.known c.as_str.result.now (option_map string_bytes o)) c.in-Some.is c.in_ok-base.ensures.leads in
    let rests : Rests p last base = subst (λ u. Rests p u base) c.as_str.ensures.value leads in
    record {
      known = c.in_ok-base.ensures.known;
      chain = subst (λ xs. IsChain p (xs ++ base ∷ [])) (sym more) (chain_push p urls last base c.loop-last.invariant.chain rests);
      starts = subst (λ xs. Starts c.args.url.now (xs ++ base ∷ [])) (sym more) (starts_push urls last base c.args.url.now c.loop-last.invariant.starts);
    }
