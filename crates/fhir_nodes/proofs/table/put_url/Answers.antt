use Rattle.fhir_nodes.proofs.Finding.{put_url_at}
use Rattle.fhir_nodes.proofs.table.put_url.Goals as goal

pub returns : goal.returns
returns c =
    λ ds. put_url_at c.args.definition.now ds c.args.index.now c.put.new.self c.url.result.now c.place.result c.url.ensures c.place.ensures
    c.in_ok-put.ensures.put
