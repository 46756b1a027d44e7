use Rattle.std.proofs.Common.{◌≡◌, drop}
use Rattle.fhir_package.specs.FilesView.{folder_files}
use Rattle.fhir_gather.specs.Reading.{files_with_bytes, gather_files}
use Rattle.fhir_gather.proofs.gathering.Gathering.take_files.Given as goal

abbrev pub invariant-loop-file : goal.invariant-loop-file
invariant-loop-file g l =
    gather_files l.folder (files_with_bytes (folder_files l.files)) l.fn.self
    ≡ gather_files l.folder (files_with_bytes (folder_files (drop l.file-index l.files))) l.self
