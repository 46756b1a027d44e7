use Rattle.std.proofs.Common.{◌≡◌, drop}
use Rattle.fhir_package.specs.FilesView.{folder_files}
use Rattle.fhir_gather.specs.Reading.{first_unread_name}
use Rattle.fhir_gather.proofs.read_folder.first_unread_name.Given as goal

abbrev pub invariant-loop-file : goal.invariant-loop-file
invariant-loop-file l = first_unread_name (folder_files l.files) ≡ first_unread_name (folder_files (drop l.file-index l.files))
