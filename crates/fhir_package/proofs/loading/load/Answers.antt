use Rattle.fhir_package.proofs.Loads.{loaded, counted}
use Rattle.fhir_package.proofs.loading.load.Goals as goal

pub returns-in-Ok-clause-packed : goal.returns-in-Ok-clause-packed
returns-in-Ok-clause-packed g c =
    loaded c.in-Ok.files (g.F.Folder.files c.args.folder.now) c.in-Ok.ensures.names c.in-Ok.ensures.bytes c.load_files.result c.load_files.ensures

pub returns-in-Ok-clause-counted : goal.returns-in-Ok-clause-counted
returns-in-Ok-clause-counted g c =
    counted c.in-Ok.files (g.F.Folder.failed_calls c.args.folder.now) (g.F.Folder.failed_calls c.read.new.folder) c.in-Ok.ensures.counted c.load_files.result
    c.load_files.ensures
