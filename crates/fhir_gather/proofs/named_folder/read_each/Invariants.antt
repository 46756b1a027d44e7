use Rattle.std.proofs.Common.{◌++◌}
use Rattle.fhir_gather.specs.Reading.{ReadFolders}
use Rattle.fhir_gather.specs.FolderViews.{read_folders}
use Rattle.fhir_gather.specs.Making.{named_files, AreRead}
use Rattle.fhir_gather.proofs.named_folder.read_each.Given as goal

abbrev pub invariant-loop-folder : goal.invariant-loop-folder
invariant-loop-folder g l =
    (more : ReadFolders) → AreRead (named_files g.F.Folder.files l.folder-iterator.rest.items) more
    → AreRead (named_files g.F.Folder.files l.fn.folders.items) (read_folders l.read.items ++ more)
