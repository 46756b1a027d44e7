use Rattle.std.proofs.Common.{ℕ, ◌%◌, List, Option, None, cond, nat_eq, map, get_or, ap, ap₂, ◌∙◌, arith}
use Rattle.std.specs.Option.{option_and_then}
use Rattle.std.proofs.lemmas.Bool.Decides.{nat_tests}
use Rattle.fhir_schema.proofs.Stepping.{halved}
use Rattle.fhir_schema.proofs.chains.places_at_end.Goals as goal

pub loop-steps-preserved : goal.loop-steps-preserved
loop-steps-preserved c =
    let places = c.loop-steps.places.items in
    let steps = c.loop-steps.steps in
    let further = λ (f : List (Option ℕ)) (xs : List (Option ℕ)). map (option_and_then (λ p. get_or f p None)) xs in
    halved c.args.table.now places c.loop-steps.power.items c.in_ok-places-2.places.items c.in_ok-power-2.power.items steps
    (nat_eq (steps % 2) 1) c.loop-steps.invariant
    (c.in_ok-places-2.ensures ∙ ap (λ (f : List (Option ℕ)). cond (nat_eq (steps % 2) 1) (further f places) places) c.deref.ensures.value)
    (c.in_ok-power-2.ensures ∙ ap₂ further c.deref-in-loop-steps-2.ensures.value c.deref-in-loop-steps.ensures.value)
    (λ e. grind (arith, nat_tests))
    (λ e. grind (arith, nat_tests))
