use Rattle.std.proofs.Common.{sym, ◌∙◌}
use Rattle.std.proofs.lemmas.Slice.Eq.{bytes_eq-Decides}
use Rattle.fhir_instance.specs.Items.{type_of}
use Rattle.fhir_instance.specs.View.{item_of}
use Rattle.fhir_walk.proofs.Alone.{one_alone, only_root}
use Rattle.fhir_walk.proofs.known.own_root.Goals as goal

pub returns-then-eq : goal.returns-then-eq
returns-then-eq c =
    let s = c.args.schema.now in
    let n = c.args.node in
    let t = c.entry-item.result in
    c.only_type_root.ensures
    ∙ only_root s n (λ e is. c.lenient_nodes.ensures.types s.definitions n e is) t (type_of (item_of c.args.item.now))
    (sym c.types.ensures ∙ one_alone c.types.result.now t c.in-len1.len_at_least c.in-len1.len_below c.entry-item.is)
    (sym c.code-2.ensures ∙ (bytes_eq-Decides c.code-2.result.now c.code-3.result.now).0 (sym c.eq.ensures ∙ c.if-eq.true) ∙ c.code-3.ensures)
