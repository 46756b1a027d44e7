-- The files of a folder over memory.
use Rattle.std.proofs.Common.{◌≡◌, List, [], ◌∷◌, map, string_bytes, refl, ap}
use Rattle.std.specs.Map.{keys_of}
use Rattle.fhir_package.specs.declared.folder_files.FolderFile.{FolderFile}
use Rattle.fhir_package.specs.Memory.{memory_files}

pub keys_of-memory_files : (fs : List FolderFile) → keys_of (memory_files fs) ≡ map (λ f. string_bytes f.name) fs
keys_of-memory_files [] = refl
keys_of-memory_files (f ∷ fs) = ap (λ l. string_bytes f.name ∷ l) (keys_of-memory_files fs)
