use Rattle.std.proofs.Common.{◌≡◌}
use Rattle.lru.specs.LruCache.{lru_cache}
use Rattle.fhir_cache.specs.Retaining.{turns}
use Rattle.fhir_cache.proofs.retaining.turn_all.Given as goal

abbrev pub invariant-loop : goal.invariant-loop
invariant-loop g l = l.cache ≡ lru_cache (turns (λ e. g.R.Rule.stays l.rule e.1) l.counter l.fn.cache.entries) l.fn.cache.cap
