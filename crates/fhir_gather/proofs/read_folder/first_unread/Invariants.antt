use Rattle.std.proofs.Common.{◌≡◌, drop}
use Rattle.fhir_gather.specs.Reading.{first_unread}
use Rattle.fhir_gather.specs.FolderViews.{read_folders}
use Rattle.fhir_gather.proofs.read_folder.first_unread.Given as goal

abbrev pub invariant-loop-folder : goal.invariant-loop-folder
invariant-loop-folder l = first_unread (read_folders l.folders) ≡ first_unread (read_folders (drop l.folder-index l.folders))
