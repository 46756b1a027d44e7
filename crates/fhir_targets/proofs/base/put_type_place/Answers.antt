use Rattle.std.proofs.Common.{sym, ◌∙◌}
use Rattle.std.proofs.lemmas.Bool.{false≢true}
use Rattle.std.proofs.lemmas.Result.{on_ok_weaker}
use Rattle.fhir_targets.specs.Chains.{code_at}
use Rattle.fhir_targets.proofs.Reaching.{type_put, type_passed, no_place}
use Rattle.fhir_targets.proofs.base.put_type_place.Goals as goal

pub returns-then-not-is_resource : goal.returns-then-not-is_resource
returns-then-not-is_resource c = λ codes h.
    type_passed c.args.schema.now.definitions codes (code_at c.args.places.now) c.args.code.now
    (λ place resource at. false≢true (sym c.if-not-is_resource.true ∙ c.is_resource.ensures ∙ resource)) h

pub returns-in-Some : goal.returns-in-Some
returns-in-Some c =
    let ds = c.args.schema.now.definitions in
    on_ok_weaker c.put_code.result
    (λ puts codes h.
    type_put ds codes (code_at c.args.places.now) (code_at c.put_code.new.places) c.args.code.now c.in-Some.place
    (sym c.is_resource.ensures ∙ c.if-not-is_resource.false) (sym c.type_place.ensures ∙ c.in-Some.is) puts h)
    c.put_code.ensures

pub returns-in-None : goal.returns-in-None
returns-in-None c = λ codes h.
    type_passed c.args.schema.now.definitions codes (code_at c.args.places.now) c.args.code.now
    (λ place resource at. no_place place (sym c.in-None.is ∙ c.type_place.ensures ∙ at)) h
