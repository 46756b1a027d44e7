use Rattle.std.proofs.Common.{sym, ◌∙◌}
use Rattle.fhir_instance.specs.Items.{kids_of}
use Rattle.fhir_instance.specs.View.{item_of}
use Rattle.fhir_walk.proofs.Free.{free}
use Rattle.fhir_walk.proofs.Alone.{none_in}
use Rattle.fhir_walk.proofs.known.is_free.Goals as goal

pub returns-then-is_empty : goal.returns-then-is_empty
returns-then-is_empty c = λ lenient here.
    let s = c.args.schema.now in
    let x = item_of c.args.item.now in
    free s here x c.args.node (none_in c.kids.result.now (kids_of x) (sym c.is_empty.ensures ∙ c.if-is_empty.true) c.kids.ensures)
    (c.lenient_nodes.ensures.lenient s.definitions c.args.node (sym c.is_lenient.ensures ∙ lenient))
