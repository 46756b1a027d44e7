-- What was read of a folder: the names of its JSON files, each with its bytes where the device gave them.
use Rattle.std.specs.Prelude.{◌≡◌, ◌+◌, ◌≤◌, ℕ, List, [], ◌∷◌, map, filter, length, Bool, Option, Some, IfSome, is_none, Result, Ok, Err}
use Rattle.std.specs.Option.{option_map, option_and_then}
use Rattle.std.specs.Map.{keys_of}
use Rattle.fhir_json.specs.Tree.{Text}
use Rattle.fhir_package.specs.declared.folder.FolderFault.{FolderFault}
use Rattle.fhir_package.specs.declared.folder.FolderFault.TheVariants.{Device, NoMemory}
use Rattle.fhir_package.specs.Folder.{Files}
use Rattle.fhir_package.specs.Definitions.{Definitions}
use Rattle.fhir_package.specs.Packing.{Refusal, bytes_at, pack_files}

-- names, each with its bytes where the device gave them
abbrev pub ReadFiles : Type 0
ReadFiles = List (Text × Option (List ℕ))

-- a file's bytes, where it has some, are those of the folder
abbrev pub IsFrom : Files → Text × Option (List ℕ) → Type 0
IsFrom files f = IfSome f.1 (λ bytes. bytes ≡ bytes_at files f.0)

abbrev pub is_unreadable_file : Text × Option (List ℕ) → Bool
is_unreadable_file f = is_none f.1

-- the names of the files without bytes
abbrev pub unreadable_names : ReadFiles → List Text
unreadable_names files = keys_of (filter is_unreadable_file files)

-- How often the device has failed behind a reading, from how often it had before: once more for each file that it didn't give, or
-- once where it didn't list the folder. Where memory ran out, no failure is forgotten.
abbrev pub CountsReading : ℕ → ℕ → Result ReadFiles FolderFault → Type 0
CountsReading old new (Ok files) = new ≡ old + length (unreadable_names files)
CountsReading old new (Err Device) = new ≡ old + 1
CountsReading old new (Err NoMemory) = old ≤ new

-- ---- files that were all given

-- files, each with its bytes
abbrev pub given : Files → ReadFiles
given files = map (λ f. (f.0, Some f.1)) files

abbrev pub given_before : Text → Option (List ℕ) → Option Files → Option Files
given_before name bytes files = option_and_then (λ bytes. option_map (λ fs. (name, bytes) ∷ fs) files) bytes

-- the files with their bytes, if each has some
abbrev pub all_given : ReadFiles → Option Files
all_given [] = Some []
all_given (f ∷ fs) = given_before f.0 f.1 (all_given fs)

-- the package that the files are, or the first refusal; neither where the device didn't give each
abbrev pub pack_given : ReadFiles → Option (Result Definitions Refusal)
pack_given files = option_map pack_files (all_given files)
