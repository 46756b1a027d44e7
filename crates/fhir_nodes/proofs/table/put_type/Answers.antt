use Rattle.std.proofs.Common.{sym, ◌∙◌}
use Rattle.fhir_nodes.proofs.Finding.{put_type_at, skip_type}
use Rattle.fhir_nodes.proofs.table.put_type.Goals as goal

pub returns-in_ok-put : goal.returns-in_ok-put
returns-in_ok-put c =
    λ ds. put_type_at c.args.definition.now ds c.args.index.now c.put.new.self c.type_code.result.now c.place.result
    (sym c.is_type.ensures ∙ c.if-is_type.true) c.type_code.ensures c.place.ensures c.in_ok-put.ensures.put

pub returns-else-is_type : goal.returns-else-is_type
returns-else-is_type c = λ ds. skip_type c.args.definition.now ds c.args.index.now (sym c.is_type.ensures ∙ c.if-is_type.false)
