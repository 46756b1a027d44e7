use Rattle.std.proofs.Common.{◌∷◌, filter, not, refl, ap}
use Rattle.fhir_claims.specs.Once.{each_once}
use Rattle.fhir_claims.specs.Claims.{own_url, claimed, claimed_urls, named_url, is_known, is_kept}
use Rattle.fhir_claims.proofs.EachOnce.{differ_once}
use Rattle.fhir_claims.proofs.Judged.{known_claim, told_claim, skipped_unknown, none_skipped}
use Rattle.fhir_claims.proofs.laws.claims_are_judged.Goals as goal

pub returns-clause-own : goal.returns-clause-own
returns-clause-own c s skip t = (_, refl)

pub returns-clause-known : goal.returns-clause-known
returns-clause-known c s skip t claim = known_claim (is_known s) (named_url s) (own_url s t) skip (claimed t) claim

pub returns-clause-told : goal.returns-clause-told
returns-clause-told c s skip t claim = told_claim (is_known s) (named_url s) (own_url s t) skip (claimed t) claim

pub returns-clause-skipped : goal.returns-clause-skipped
returns-clause-skipped c s skip t url = skipped_unknown (is_known s) skip (claimed_urls s t) url

pub returns-clause-kept : goal.returns-clause-kept
returns-clause-kept c s t = ap each_once (none_skipped (is_known s) (claimed_urls s t))

pub returns-clause-once : goal.returns-clause-once
returns-clause-once c s skip t = differ_once (own_url s t ∷ filter (is_kept s skip) (claimed_urls s t))

pub returns-clause-skipped_once : goal.returns-clause-skipped_once
returns-clause-skipped_once c s skip t = differ_once (filter (λ url. not (is_kept s skip url)) (claimed_urls s t))
