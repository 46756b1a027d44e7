use Rattle.fhir_names.proofs.Named.{remove-named}
use Rattle.fhir_names.proofs.index.Index.remove.Goals as goal

pub returns : goal.returns
returns c = rw (← c.self.view_is) (remove-named c.self.inside.places c.remove-place.new.self c.args.name.now c.remove-place.ensures.updates)
