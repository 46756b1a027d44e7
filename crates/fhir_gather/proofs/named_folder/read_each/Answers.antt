use Rattle.std.proofs.Common.{◌≡◌, [], sym, subst, rules}
use Rattle.std.proofs.lemmas.List.{nil_from_length}
use Rattle.fhir_gather.specs.FolderViews.{read_folders}
use Rattle.fhir_gather.specs.Making.{named_files, AreRead}
use Rattle.fhir_gather.proofs.Readings.{read_all}
use Rattle.fhir_gather.proofs.named_folder.read_each.Goals as goal

pub returns-clause-read : goal.returns-clause-read
returns-clause-read g c =
    let empty : c.loop-folder.folder-iterator.rest.items ≡ [] = nil_from_length c.loop-folder.folder-iterator.rest.items (search rules) in
    read_all (named_files g.F.Folder.files c.args.folders.items) (read_folders c.loop-folder.read.items)
    (λ more h. c.loop-folder.invariant more (subst (λ xs. AreRead (named_files g.F.Folder.files xs) more) (sym empty) h))
