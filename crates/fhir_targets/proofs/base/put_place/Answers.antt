use Rattle.std.proofs.Common.{sym, ap, ◌∙◌}
use Rattle.std.proofs.lemmas.Result.{on_ok_weaker}
use Rattle.fhir_json.specs.Views.{text_seen}
use Rattle.fhir_targets.specs.Base.{has_code}
use Rattle.fhir_targets.specs.Chains.{code_at, with_code}
use Rattle.fhir_targets.proofs.Reaching.{same_codes}
use Rattle.fhir_targets.proofs.Sets.{code_more, no_code_more, one_more_target}
use Rattle.fhir_targets.proofs.base.put_place.Goals as goal

pub returns-in-Some : goal.returns-in-Some
returns-in-Some c =
    let s = c.args.schema.now in
    let target = c.args.target.now in
    let code = c.in-Some.code.now in
    on_ok_weaker c.put_type_place.result
    (λ put targets h.
    same_codes s.definitions (with_code code (has_code s targets)) (has_code s (one_more_target targets target)) (code_at c.put_type_place.new.places)
    (λ d. code_more s targets target code d (sym c.target_type.ensures ∙ ap text_seen c.in-Some.is)) (put (has_code s targets) h))
    c.put_type_place.ensures

pub returns-in-None : goal.returns-in-None
returns-in-None c = λ targets h.
    let s = c.args.schema.now in
    let target = c.args.target.now in
    same_codes s.definitions (has_code s targets) (has_code s (one_more_target targets target)) (code_at c.args.places.now)
    (λ d. no_code_more s targets target d (sym c.target_type.ensures ∙ ap text_seen c.in-None.is)) h
