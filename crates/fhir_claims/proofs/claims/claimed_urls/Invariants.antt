use Rattle.std.proofs.Common.{◌≡◌, ◌++◌, map, drop}
use Rattle.std.specs.Prelude.{filter_map}
use Rattle.fhir_json.specs.Fields.{as_text}
use Rattle.fhir_json.specs.Views.{trees_of}
use Rattle.fhir_claims.specs.Claims.{named_url}
use Rattle.fhir_claims.proofs.claims.claimed_urls.Given as goal

abbrev pub invariant-loop-claim : goal.invariant-loop-claim
invariant-loop-claim l =
    map (λ u. u.now) l.urls.items ++ map (named_url l.schema) (filter_map as_text (trees_of (drop l.claim-index l.claims)))
    ≡ map (named_url l.schema) (filter_map as_text (trees_of l.claims))
