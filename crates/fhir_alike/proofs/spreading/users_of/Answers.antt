use Rattle.std.proofs.Common.{ap, ◌∙◌, arith}
use Rattle.fhir_definition.specs.Views.{lists_in}
use Rattle.fhir_alike.specs.Spreading.{users_under}
use Rattle.fhir_alike.proofs.Users.{from_turn}
use Rattle.fhir_alike.proofs.spreading.users_of.Goals as goal

pub loop-place-preserved : goal.loop-place-preserved
loop-place-preserved c =
    from_turn c.args.edges.now c.loop-place.place c.index-edges-place.result (lists_in c.loop-place.users.items) (lists_in c.put_user.new.users.items) _
    (omega arith) c.loop-place.invariant
    (c.in_ok-put_user.ensures
    ∙ ap (λ xs. users_under xs c.loop-place.place (lists_in c.loop-place.users.items)) (c.deref.ensures.value ∙ ap (λ v. v.items) c.index-edges-place.is))
