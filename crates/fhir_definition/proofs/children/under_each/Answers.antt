use Rattle.std.proofs.Common.{sym, ◌∙◌, ◌<◌, arith, length}
use Rattle.std.proofs.lemmas.List.{length-take-le}
use Rattle.fhir_definition.specs.Views.{lists_in}
use Rattle.fhir_definition.proofs.Gathers.{gathered_none, gathered_turn}
use Rattle.fhir_definition.proofs.children.under_each.Goals as goal

pub loop-place-init : goal.loop-place-init
loop-place-init c = c.in_ok-all.ensures ∙ sym (gathered_none 0 (length c.args.ups.now))

pub loop-place-preserved : goal.loop-place-preserved
loop-place-preserved c =
    let here : c.loop-place.place < length c.args.ups.now = omega arith in
    gathered_turn (length c.args.ups.now) c.args.ups.now c.loop-place.place _ (lists_in c.loop-place.all.items) (lists_in c.put_at.new.all.items) here
    (length-take-le c.loop-place.place c.args.ups.now (omega arith)) c.loop-place.invariant c.in_ok-put_at.ensures
