use Rattle.std.proofs.Common.{◌≡◌, ◌∙◌, ap, length, arith, Bool}
use Rattle.lru.specs.LruCache.{lru_cache}
use Rattle.fhir_cache.specs.Retaining.{turns}
use Rattle.fhir_cache.proofs.Turning.{turns_all}
use Rattle.fhir_cache.proofs.retaining.turn_all.Goals as goal

pub returns-clause-ok : goal.returns-clause-ok
returns-clause-ok g c =
    let keep : (g.row.Q.Denot × g.row.V.Denot) → Bool = λ e. g.R.Rule.stays c.args.rule.now e.1 in
    let was = c.args.cache.now in
    let over : c.loop.counter ≡ length was.entries = omega arith in
    c.loop.invariant ∙ ap (λ es. lru_cache es was.cap) (ap (λ n. turns keep n was.entries) over ∙ turns_all keep was.entries)
