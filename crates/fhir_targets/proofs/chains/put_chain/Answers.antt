use Rattle.std.proofs.Common.{◌≡◌, None, Some, sym, ◌∙◌}
use Rattle.fhir_schema.specs.Settling.{base_of_place}
use Rattle.fhir_targets.specs.Chains.{code_at}
use Rattle.fhir_targets.proofs.Climbing.{none_at}
use Rattle.fhir_targets.proofs.Reaching.{chain_put, chain_goes_on}
use Rattle.fhir_targets.proofs.chains.put_chain.Goals as goal

pub loop-step-init : goal.loop-step-init
loop-step-init c = λ codes h r. (h, r)

pub loop-step-preserved : goal.loop-step-preserved
loop-step-preserved c = λ codes h r.
    let ds = c.args.schema.now.definitions in
    let old = code_at c.loop-step.places in
    let new = code_at c.put_code.new.places in
    let place = c.loop-step.place in
    let code = c.args.code.now in
    let held = c.loop-step.invariant codes h r in
    let none : old place ≡ None = none_at c.code_at.result (old place) c.code_at.ensures (sym c.is_some.ensures ∙ c.if-is_some.false) in
    let on : base_of_place ds place ≡ Some c.in-Some.base = sym c.base_of_place.ensures ∙ c.in-Some.is in (
      chain_put ds codes old new code place c.in_ok-put_code.ensures held.1 held.0,
      chain_goes_on ds codes old code place c.in-Some.base none on held.0 held.1,
    )

pub returns-then-is_some : goal.returns-then-is_some
returns-then-is_some c = λ codes h r. (c.loop-step.invariant codes h r).0

pub returns-in_default : goal.returns-in_default
returns-in_default c = λ codes h r.
    let held = c.loop-step.invariant codes h r in
    chain_put c.args.schema.now.definitions codes (code_at c.loop-step.places) (code_at c.put_code.new.places) c.args.code.now c.loop-step.place
    c.in_ok-put_code.ensures held.1 held.0

pub returns : goal.returns
returns c = λ codes h r. (c.loop-step.invariant codes h r).0
