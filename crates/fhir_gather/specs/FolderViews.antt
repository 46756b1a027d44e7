-- What contracts see of folders that were read.
use Rattle.std.specs.Prelude.{List, map, string_bytes}
use Rattle.fhir_json.specs.Tree.{Text}
use Rattle.fhir_package.specs.ReadFiles.{ReadFiles}
use Rattle.fhir_gather.specs.declared.read_folder.ReadFolder.{ReadFolder}
use Rattle.fhir_gather.specs.declared.read_folder.FileAt.{FileAt as Names}
use Rattle.fhir_gather.specs.Gathering.{FileAt}
use Rattle.fhir_gather.specs.Reading.{ReadFolders}

-- a file, by the names of its folder and itself
abbrev pub file_seen : Names → FileAt
file_seen f = (f.folder.now, f.file.now)

-- a folder's name and its files
abbrev pub read_folder : ReadFolder → Text × ReadFiles
read_folder f = (string_bytes f.name, f.files)

abbrev pub read_folders : List ReadFolder → ReadFolders
read_folders fs = map read_folder fs
