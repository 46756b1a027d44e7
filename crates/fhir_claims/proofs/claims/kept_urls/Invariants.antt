use Rattle.std.proofs.Common.{◌≡◌, ◌++◌, ◌∷◌, map, drop, filter}
use Rattle.fhir_claims.specs.Claims.{is_kept}
use Rattle.fhir_claims.proofs.claims.kept_urls.Given as goal

abbrev pub invariant-loop-url : goal.invariant-loop-url
invariant-loop-url l =
    map (λ u. u.now) l.urls.items ++ filter (is_kept l.schema l.skip_unknown) (map (λ u. u.now) (drop l.url-index l.claimed))
    ≡ l.own ∷ filter (is_kept l.schema l.skip_unknown) (map (λ u. u.now) l.claimed)
