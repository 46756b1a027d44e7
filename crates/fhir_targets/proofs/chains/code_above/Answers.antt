use Rattle.std.proofs.Common.{◌≡◌, ◌<◌, ◌≤◌, List, length, None, Some, sym, ap, ◌∙◌, arith}
use Rattle.fhir_definition.specs.Definition.{Definition}
use Rattle.fhir_schema.specs.Settling.{base_of_place}
use Rattle.fhir_targets.specs.Chains.{code_at}
use Rattle.fhir_targets.proofs.Climbing.{climb_begins, climb_goes_on, climb_ends, climb_is_over, none_at, found_at}
use Rattle.fhir_targets.proofs.chains.code_above.Goals as goal

pub loop-step-init : goal.loop-step-init
loop-step-init c =
    let ds = c.args.schema.now.definitions in
    climb_begins ds (code_at c.args.places.now) c.args.start (length ds)

pub loop-step-preserved : goal.loop-step-preserved
loop-step-preserved c =
    let ds = c.args.schema.now.definitions in
    let at = code_at c.args.places.now in
    let place = c.loop-step.place in
    let none : at place ≡ None = none_at c.code_at-code.result (at place) c.code_at-code.ensures (sym c.is_some.ensures ∙ c.if-is_some.false) in
    let on : base_of_place ds place ≡ Some c.in-Some.base = sym c.base_of_place.ensures ∙ c.in-Some.is in
    let as_many : length c.definitions-step-end.result.now ≡ length ds = ap (λ (l : List Definition). length l) c.definitions-step-end.ensures in
    let lt : c.loop-step._step < length ds = omega (arith, as_many) in
    climb_goes_on ds at c.args.start (length ds) c.loop-step._step place c.in-Some.base lt none on c.loop-step.invariant

pub returns-then-is_some : goal.returns-then-is_some
returns-then-is_some c = λ codes h.
    found_at c.args.schema.now.definitions codes (code_at c.args.places.now) c.args.start c.loop-step._step c.loop-step.place c.code_at-code.result h
    c.loop-step.invariant c.code_at-code.ensures (sym c.is_some.ensures ∙ c.if-is_some.true)

pub returns-in_default : goal.returns-in_default
returns-in_default c = λ codes h.
    let ds = c.args.schema.now.definitions in
    let at = code_at c.args.places.now in
    let place = c.loop-step.place in
    let none : at place ≡ None = none_at c.code_at-code.result (at place) c.code_at-code.ensures (sym c.is_some.ensures ∙ c.if-is_some.false) in
    let on : base_of_place ds place ≡ None = sym c.base_of_place.ensures ∙ c.in_default.is in
    let as_many : length c.definitions-step-end.result.now ≡ length ds = ap (λ (l : List Definition). length l) c.definitions-step-end.ensures in
    let lt : c.loop-step._step < length ds = omega (arith, as_many) in
    climb_ends ds codes at h c.args.start c.loop-step._step place lt c.loop-step.invariant none on

pub returns : goal.returns
returns c = λ codes h.
    let ds = c.args.schema.now.definitions in
    let as_many : length c.definitions-step-end.result.now ≡ length ds = ap (λ (l : List Definition). length l) c.definitions-step-end.ensures in
    let ge : length ds ≤ c.loop-step._step = omega (arith, as_many) in
    climb_is_over ds codes (code_at c.args.places.now) h c.args.start c.loop-step._step c.loop-step.place ge c.loop-step.invariant
