use Rattle.fhir_definition.proofs.Identified.{put_id_at}
use Rattle.fhir_definition.proofs.by_id.put_id.Goals as goal

pub returns : goal.returns
returns c =
    λ es. put_id_at c.args.element.now es c.args.index.now c.put.new.self c.id.result.now c.args.place c.id.ensures c.in_ok-put.ensures.put
