use Rattle.std.proofs.Common.{map, ap, ◌∙◌}
use Rattle.fhir_json.specs.Views.{tree_of}
use Rattle.fhir_claims.specs.Claims.{profiles_of, skipped_of}
use Rattle.fhir_telling.specs.Questions.{question_seen}
use Rattle.fhir_telling.specs.Views.{told_seen}
use Rattle.fhir_telling.proofs.Owned.{as_ok, by_claims}
use Rattle.fhir_telling.proofs.own.told_of_resource.Goals as goal

pub returns : goal.returns
returns c = λ reads.
    let q = question_seen c.args.question in
    let t = tree_of c.args.resource.now in
    let claims = c.in_ok-claims.claims in
    let told = c.in_ok-claims.ensures in
    let skips = c.skips-skips.ensures in
    as_ok
    (λ answer so.
    by_claims q c.args.bytes.now t (told_seen answer) claims.is_typed (map (λ u. u.now) claims.profiles.items) (map (λ u. u.now) claims.skipped.items)
    reads told.is_typed (told.profiles ∙ ap (λ b. profiles_of q.schema b t) skips) (told.skipped ∙ ap (λ b. skipped_of q.schema b t) skips)
    (c.claims_are_judged.ensures.own q.schema q.skips_unknown t) so)
    c.told_of_claims.result c.told_of_claims.ensures
