-- What a folder over memory means: its files are those that are kept, and it has none where it gives no listing.
use Rattle.std.specs.Prelude.{ℕ, List, [], map, Option, Some, None, Vec, string_bytes}
use Rattle.std.specs.declared.alloc.Global.{Global}
use Rattle.fhir_package.specs.declared.folder_files.FolderFile.{FolderFile}
use Rattle.fhir_package.specs.Folder.{Files}

-- a folder's files, and how many calls on it have failed
pub record FolderValue : Type 0 where
  pub files : Files
  pub failures : ℕ

-- a file's bytes; where there are none no read of the file succeeds, so that any bytes serve
abbrev pub given_bytes : Option (Vec ℕ Global) → List ℕ
given_bytes None = []
given_bytes (Some bytes) = bytes.items

abbrev pub memory_file : FolderFile → List ℕ × List ℕ
memory_file f = (string_bytes f.name, given_bytes f.bytes)

abbrev pub memory_files : List FolderFile → Files
memory_files fs = map memory_file fs

abbrev pub listed : Option (Vec FolderFile Global) → Files
listed None = []
listed (Some fs) = memory_files fs.items

abbrev pub files_of : FolderValue → Files
files_of m = m.files

abbrev pub failures_of : FolderValue → ℕ
failures_of m = m.failures
