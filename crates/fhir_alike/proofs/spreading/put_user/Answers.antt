use Rattle.std.proofs.Common.{arith}
use Rattle.fhir_definition.specs.Views.{lists_in}
use Rattle.fhir_alike.proofs.Users.{under_turn}
use Rattle.fhir_alike.proofs.spreading.put_user.Goals as goal

pub loop-at-preserved : goal.loop-at-preserved
loop-at-preserved c =
    under_turn c.args.leads_to.now c.loop-at.at-index c.args.place 0 (lists_in c.loop-at.users.items) (lists_in c.put_at.new.all.items) _
    (omega arith) c.loop-at.invariant c.in_ok-put_at.ensures
