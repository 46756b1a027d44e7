use Rattle.std.proofs.Common.{sym, ap, subst, ◌∙◌}
use Rattle.std.proofs.lemmas.Result.{on_ok_weaker}
use Rattle.fhir_json.specs.Memory.{Gives}
use Rattle.fhir_json.specs.Views.{text_seen}
use Rattle.fhir_targets.proofs.Covered.{by_text, by_type, by_neither}
use Rattle.fhir_targets.proofs.base.BaseTargets.has.Goals as goal

pub returns-then-has_text-clause-among : goal.returns-then-has_text-clause-among
returns-then-has_text-clause-among c = λ bases h.
    sym (by_text c.args.schema.now c.args.own.now bases (sym (h.texts c.args.own.now) ∙ sym c.has_text.ensures ∙ c.if-has_text.true))

pub returns-in-Some-clause-among : goal.returns-in-Some-clause-among
returns-in-Some-clause-among c = λ bases h.
    let s = c.args.schema.now in
    subst (Gives (λ b. b) c.is_covered.result)
    (by_type s c.args.own.now bases c.in-Some.code.now (sym (h.texts c.args.own.now) ∙ sym c.has_text.ensures ∙ c.if-has_text.false)
    (sym c.target_type.ensures ∙ ap text_seen c.in-Some.is))
    (c.is_covered.ensures.covered bases h.codes h.places)

pub returns-in-Some-clause-kept : goal.returns-in-Some-clause-kept
returns-in-Some-clause-kept c =
    on_ok_weaker c.is_covered.result
    (λ kept bases h. record { texts = h.texts; codes = h.codes; places = kept bases h.places })
    c.is_covered.ensures.kept

pub returns-in-None-clause-among : goal.returns-in-None-clause-among
returns-in-None-clause-among c = λ bases h.
    by_neither c.args.schema.now c.args.own.now bases (sym (h.texts c.args.own.now) ∙ sym c.has_text.ensures ∙ c.if-has_text.false)
    (sym c.target_type.ensures ∙ ap text_seen c.in-None.is)
