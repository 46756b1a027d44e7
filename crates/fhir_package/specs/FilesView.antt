-- What contracts see of files that were read: names, each with its bytes where there are some.
use Rattle.std.specs.Prelude.{ℕ, List, map, Option, string_bytes}
use Rattle.std.specs.Option.{option_map}
use Rattle.fhir_json.specs.Tree.{Text}
use Rattle.fhir_package.specs.declared.folder_files.FolderFile.{FolderFile}
use Rattle.fhir_package.specs.ReadFiles.{ReadFiles}

abbrev pub folder_file : FolderFile → Text × Option (List ℕ)
folder_file f = (string_bytes f.name, option_map (λ bytes. bytes.items) f.bytes)

abbrev pub folder_files : List FolderFile → ReadFiles
folder_files fs = map folder_file fs
