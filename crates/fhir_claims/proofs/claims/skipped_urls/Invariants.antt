use Rattle.std.proofs.Common.{◌≡◌, ◌++◌, map, drop, filter, not}
use Rattle.fhir_claims.specs.Claims.{is_kept}
use Rattle.fhir_claims.proofs.claims.skipped_urls.Given as goal

abbrev pub invariant-loop-url : goal.invariant-loop-url
invariant-loop-url l =
    map (λ u. u.now) l.urls.items ++ filter (λ url. not (is_kept l.schema l.skip_unknown url)) (map (λ u. u.now) (drop l.url-index l.claimed))
    ≡ filter (λ url. not (is_kept l.schema l.skip_unknown url)) (map (λ u. u.now) l.claimed)
