use Rattle.std.proofs.Common.{◌<◌, ◌∙◌, [], length, take, ◌||◌, ap, sym, arith}
use Rattle.std.specs.List.{list_any}
use Rattle.std.proofs.lemmas.Grind.{common_steps}
use Rattle.fhir_codes.specs.Concepts.{union_of}
use Rattle.fhir_codes.proofs.Looping.{any_more, gives_as}
use Rattle.fhir_codes.proofs.Members.{has, has-list, has-append, is_united, set_of}
use Rattle.fhir_codes.proofs.combining.united_anew.Goals as goal

pub loop-one-init : goal.loop-one-init
loop-one-init c x = ap (λ xs. has (set_of xs) x) c.new-all.ensures.items ∙ has-list [] x

pub loop-one-preserved : goal.loop-one-preserved
loop-one-preserved c x =
    let within : c.loop-one.one-index < length c.args.sets.now = omega arith in
    ap (λ xs. has (set_of xs) x) c.in_ok-put_all.ensures
    ∙ has-append c.loop-one.all.items c.concepts.result.now x
    ∙ ap (λ b. b || has (set_of c.concepts.result.now) x) (c.loop-one.invariant x)
    ∙ ap (λ s. list_any (λ s. has s x) (take c.loop-one.one-index c.args.sets.now) || has s x) c.concepts.ensures
    ∙ sym (any_more (λ s. has s x) c.args.sets.now c.loop-one.one-index c.one-item.result within c.one-item.is)

pub returns : goal.returns
returns c =
    gives_as (λ s. s) c.of.result (set_of c.loop-one.all.items) (union_of c.args.sets.now)
    (is_united (set_of c.loop-one.all.items) c.args.sets.now (λ x. grind (arith, common_steps, c.loop-one.invariant x))) c.of.ensures
