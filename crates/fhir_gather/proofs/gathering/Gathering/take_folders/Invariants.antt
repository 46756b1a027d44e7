use Rattle.std.proofs.Common.{◌≡◌, drop}
use Rattle.fhir_gather.specs.Reading.{folders_with_bytes, gather_folders}
use Rattle.fhir_gather.specs.FolderViews.{read_folders}
use Rattle.fhir_gather.proofs.gathering.Gathering.take_folders.Given as goal

abbrev pub invariant-loop-folder : goal.invariant-loop-folder
invariant-loop-folder g l =
    gather_folders (folders_with_bytes (read_folders l.folders)) l.fn.self
    ≡ gather_folders (folders_with_bytes (read_folders (drop l.folder-index l.folders))) l.self
