use Rattle.std.proofs.Common.{◌≡◌, ◌-◌, ◌<◌, ℕ, suc, ◌∷◌, drop, length, sym, ap, subst, ◌∙◌, arith}
use Rattle.std.specs.Map.{keys_of}
use Rattle.fhir_json.specs.Tree.{Text}
use Rattle.fhir_package.specs.View.{entries_seen}
use Rattle.fhir_package.proofs.Placed.{ArePlaced, url_at, one_placed, all_placed}
use Rattle.fhir_package.proofs.url_map.set_places.Goals as goal

pub loop-place-preserved : goal.loop-place-preserved
loop-place-preserved c =
    let names = keys_of (entries_seen c.args.entries.now) in
    let from = c.loop-place.place - 1 in
    let url = c.as_str.result.now in
    let inside : from < length c.args.entries.now = omega arith in
    let next : suc from ≡ c.loop-place.place = omega arith in
    let first : drop from names ≡ url ∷ drop c.loop-place.place names =
    url_at c.args.entries.now from c.index-entries-place.result inside c.index-entries-place.is
    ∙ ap (λ (u : Text). u ∷ drop (suc from) names) (sym c.as_str.ensures.value) ∙ ap (λ (n : ℕ). url ∷ drop n names) next in
    (omega arith, λ knows. one_placed c.loop-place.urls c.set.new.self from c.loop-place.place url names first (omega arith) c.set.ensures (c.loop-place.invariant.1 knows))

pub returns : goal.returns
returns c = λ knows.
    let names = keys_of (entries_seen c.args.entries.now) in
    let first : c.loop-place.place ≡ 0 = omega arith in
    all_placed c.loop-place.urls names (subst (λ n. ArePlaced c.loop-place.urls n names) first (c.loop-place.invariant.1 knows))
