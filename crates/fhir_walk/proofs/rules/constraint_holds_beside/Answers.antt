use Rattle.fhir_instance.specs.View.{item_of}
use Rattle.fhir_conformance.specs.Asks.{constraint_ask}
use Rattle.fhir_walk.specs.Walks.{Tells, TellsBeside, passes}
use Rattle.fhir_walk.proofs.Turns.{told_more}
use Rattle.fhir_walk.proofs.rules.constraint_holds_beside.Goals as goal

pub returns : goal.returns
returns c =
    let s = c.args.schema.now in
    let x = item_of c.args.item.now in
    let ask = constraint_ask c.args.node c.args.position in
    told_more (Tells (item_of c.args.around.now) (λ here. passes s here x ask)) (TellsBeside s x c.args.settled (item_of c.args.around.now) (λ here. passes s here x ask))
    (λ told tells here near known. tells here near) c.constraint_holds.result c.constraint_holds.ensures
