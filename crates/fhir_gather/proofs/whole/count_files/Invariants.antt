use Rattle.std.proofs.Common.{◌≡◌, ◌+◌, drop}
use Rattle.fhir_gather.specs.Reading.{folders_with_bytes}
use Rattle.fhir_gather.specs.FolderViews.{read_folders}
use Rattle.fhir_gather.specs.Making.{file_count}
use Rattle.fhir_gather.proofs.whole.count_files.Given as goal

abbrev pub invariant-loop-folder : goal.invariant-loop-folder
invariant-loop-folder l =
    l.count + file_count (folders_with_bytes (read_folders (drop l.folder-index l.folders))) ≡ file_count (folders_with_bytes (read_folders l.folders))
