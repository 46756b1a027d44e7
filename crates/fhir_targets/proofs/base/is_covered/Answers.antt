use Rattle.std.proofs.Common.{sym, ap, subst, ◌∙◌}
use Rattle.fhir_json.specs.Views.{text_seen}
use Rattle.fhir_targets.specs.Base.{has_code}
use Rattle.fhir_targets.specs.Chains.{IsAnswer}
use Rattle.fhir_targets.proofs.Covered.{covered_by_itself, covered, not_covered_unplaced, not_covered_apart, not_covered_unended}
use Rattle.fhir_targets.proofs.base.is_covered.Goals as goal

pub returns-then-has_text-clause-covered : goal.returns-then-has_text-clause-covered
returns-then-has_text-clause-covered c = λ bases codes places.
    sym (covered_by_itself c.args.schema.now bases c.args.code.now (sym (codes c.args.code.now) ∙ sym c.has_text.ensures ∙ c.if-has_text.true))

pub returns-in_default-clause-covered : goal.returns-in_default-clause-covered
returns-in_default-clause-covered c = λ bases codes places.
    sym (not_covered_unplaced c.args.schema.now bases c.args.code.now (sym (codes c.args.code.now) ∙ sym c.has_text.ensures ∙ c.if-has_text.false)
    (sym c.type_place.ensures ∙ c.in_default.is))

pub returns-in_default-code_above-clause-covered : goal.returns-in_default-code_above-clause-covered
returns-in_default-code_above-clause-covered c = λ bases codes places.
    let s = c.args.schema.now in
    let start = c.in-Some.start in
    sym (not_covered_apart s bases c.args.code.now start (sym (codes c.args.code.now) ∙ sym c.has_text.ensures ∙ c.if-has_text.false)
    (sym c.type_place.ensures ∙ c.in-Some.is)
    (subst (IsAnswer s.definitions (has_code s bases) start) (ap text_seen c.in_default-code_above.is) (c.code_above.ensures (has_code s bases) places)))

pub returns-then-not-covers-clause-covered : goal.returns-then-not-covers-clause-covered
returns-then-not-covers-clause-covered c = λ bases codes places.
    let s = c.args.schema.now in
    let start = c.in-Some.start in
    let base = c.in-Some-code_above.base.now in
    sym (not_covered_unended s bases c.args.code.now base start (sym (codes c.args.code.now) ∙ sym c.has_text.ensures ∙ c.if-has_text.false)
    (sym c.type_place.ensures ∙ c.in-Some.is)
    (subst (IsAnswer s.definitions (has_code s bases) start) (ap text_seen c.in-Some-code_above.is) (c.code_above.ensures (has_code s bases) places))
    (sym c.covers.ensures ∙ c.if-not-covers.true))

pub returns-clause-covered : goal.returns-clause-covered
returns-clause-covered c = λ bases codes places.
    let s = c.args.schema.now in
    let start = c.in-Some.start in
    let base = c.in-Some-code_above.base.now in
    sym (covered s bases c.args.code.now base start
    (subst (IsAnswer s.definitions (has_code s bases) start) (ap text_seen c.in-Some-code_above.is) (c.code_above.ensures (has_code s bases) places))
    (sym c.covers.ensures ∙ c.if-not-covers.false))

pub returns-clause-kept : goal.returns-clause-kept
returns-clause-kept c = λ bases places.
    let s = c.args.schema.now in
    c.in_ok-put_chain.ensures (has_code s bases) places
    (subst (IsAnswer s.definitions (has_code s bases) c.in-Some.start) (ap text_seen c.in-Some-code_above.is) (c.code_above.ensures (has_code s bases) places))
