use Rattle.fhir_names.proofs.Named.{put-named}
use Rattle.fhir_names.proofs.index.Index.put.Goals as goal

pub returns-clause-put : goal.returns-clause-put
returns-clause-put c =
    rw (← c.self.view_is)
    (put-named c.self.inside.places c.insert.new.self c.in_ok-name.name c.args.name.now c.args.place c.in_ok-name.ensures.ok c.in_ok-insert.ensures.updates)
