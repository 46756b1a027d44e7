use Rattle.std.proofs.Common.{◌≡◌, map, string_bytes}
use Rattle.std.specs.Map.{keys_of}
use Rattle.fhir_package.specs.Packing.{json_names}
use Rattle.fhir_package.specs.FilesView.{folder_files}
use Rattle.fhir_package.proofs.Given.{AreRead}
use Rattle.fhir_package.proofs.folder_files.FolderFiles.read.Given as goal

abbrev pub invariant-loop-name : goal.invariant-loop-name
invariant-loop-name g l =
    (g.F.Folder.files l.folder ≡ g.F.Folder.files l.fn.folder)
    × AreRead (g.F.Folder.files l.fn.folder) (json_names (keys_of (g.F.Folder.files l.fn.folder))) (g.F.Folder.failed_calls l.fn.folder)
    (folder_files l.files.items) (map string_bytes l.name-iterator) (g.F.Folder.failed_calls l.folder)
