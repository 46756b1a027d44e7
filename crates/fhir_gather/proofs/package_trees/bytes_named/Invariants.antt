use Rattle.std.proofs.Common.{◌≡◌, drop}
use Rattle.fhir_package.specs.FilesView.{folder_files}
use Rattle.fhir_gather.specs.PackageTrees.{bytes_named}
use Rattle.fhir_gather.proofs.package_trees.bytes_named.Given as goal

abbrev pub invariant-loop-file : goal.invariant-loop-file
invariant-loop-file l = bytes_named l.name (folder_files l.files) ≡ bytes_named l.name (folder_files (drop l.file-index l.files))
