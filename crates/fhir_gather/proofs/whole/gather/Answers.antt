use Rattle.fhir_gather.specs.Making.{folders_of}
use Rattle.fhir_gather.proofs.Makings.{loads_first}
use Rattle.fhir_gather.proofs.whole.gather.Goals as goal

pub returns-in-Ok-clause-loads : goal.returns-in-Ok-clause-loads
returns-in-Ok-clause-loads g c =
    loads_first c.loads.ensures (folders_of g.F.Folder.files c.args.folders.items) (g.N.NewFolder.part c.gather_into.new.out) c.in-Ok.told c.in-Ok.ensures.made
