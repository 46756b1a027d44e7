-- What a new folder is made of.
use Rattle.std.specs.Prelude.{◌≡◌, ◌+◌, ℕ, List, [], ◌∷◌, map, length, find, sum_by, All, Option, Some, Result, Ok, Err, string_bytes}
use Rattle.std.specs.Option.{option_map}
use Rattle.std.specs.Map.{keys_of}
use Rattle.fhir_json.specs.Tree.{Text}
use Rattle.fhir_package.specs.declared.kind.Kind.{Kind}
use Rattle.fhir_package.specs.Definitions.{Definitions, at_url}
use Rattle.fhir_package.specs.Folder.{Files}
use Rattle.fhir_package.specs.Packing.{json_names, json_files, pack}
use Rattle.fhir_package.specs.ReadFiles.{ReadFiles, IsFrom}
use Rattle.fhir_gather.specs.declared.fault.GatherFault.{GatherFault}
use Rattle.fhir_gather.specs.declared.fault.GatherFault.TheVariants.{Exists, Left, Unlisted, Unreadable, NotJson, Unwritten, NoMemory}
use Rattle.fhir_gather.specs.declared.named_folder.NamedFolder.{NamedFolder}
use Rattle.fhir_gather.specs.declared.gathered.Gathered.{Gathered as Told}
use Rattle.fhir_gather.specs.Gathering.{Taken, Folders, FileAt, Gathered, all_taken, is_of, kept, dropped}
use Rattle.fhir_gather.specs.Reading.{ReadFolders}
use Rattle.fhir_gather.specs.Views.{all_dropped}
use Rattle.fhir_gather.specs.Written.{written}

-- ---- the folders

-- the name of each folder, and its files
abbrev pub named_files : {F : Type 0} → (F → Files) → List (NamedFolder F) → Folders
named_files files xs = map (λ x. (string_bytes x.name, files x.folder)) xs

abbrev pub with_json_files : Text × Files → Text × Files
with_json_files x = (x.0, json_files x.1)

-- the name of each folder, and its JSON files
abbrev pub folders_of : {F : Type 0} → (F → Files) → List (NamedFolder F) → Folders
folders_of files xs = map with_json_files (named_files files xs)

-- a folder of that name and with those files, as it was read
pub record IsRead (folder : Text × Files) (read : Text × ReadFiles) : Type 0 where
  pub name : read.0 ≡ folder.0
  pub names : keys_of read.1 ≡ json_names (keys_of folder.1)
  pub bytes : All (IsFrom folder.1) read.1

-- folders as they were read
abbrev pub AreRead : Folders → ReadFolders → Type 0
AreRead [] [] = Unit {0}
AreRead [] (r ∷ rs) = ⊥
AreRead (x ∷ xs) [] = ⊥
AreRead (x ∷ xs) (r ∷ rs) = IsRead x r × AreRead xs rs

-- ---- what is made

-- how many files folders have
abbrev pub file_count : Folders → ℕ
file_count folders = sum_by (λ x. length x.1) folders

-- what is told of folders in which these definitions stand
pub record IsTold (xs : Folders) (ts : List Taken) (told : Told) : Type 0 where
  pub folders : told.folders ≡ length xs
  pub files : told.files ≡ file_count xs
  pub definitions : told.definitions ≡ length ts
  pub kept : told.kept ≡ length (kept ts)
  pub dropped : all_dropped told.dropped.items ≡ dropped ts

-- what is told of so many folders with so many files of which this is gathered
pub record Tells (folder_count total : ℕ) (g : Gathered) (told : Told) : Type 0 where
  pub folders : told.folders ≡ folder_count
  pub files : told.files ≡ total
  pub definitions : told.definitions ≡ length g.kept + length g.dropped
  pub kept : told.kept ≡ length g.kept
  pub dropped : all_dropped told.dropped.items ≡ g.dropped

-- what stands under the new folder's name, and what is told
pub record IsMade (folders : Folders) (whole : Option Files) (told : Told) : Type 0 where
  pub taken : List Taken
  pub all : all_taken folders ≡ Ok taken
  pub made : whole ≡ Some (written (kept taken))
  pub is_told : IsTold folders taken told

-- What stands under the new folder's name loads, and of each kind and url it has the first definition of all that stand in the folders.
pub record LoadsFirst (folders : Folders) (whole : Option Files) : Type 0 where
  pub files : Files
  pub definitions : Definitions
  pub taken : List Taken
  pub stands : whole ≡ Some files
  pub packed : pack files ≡ Ok definitions
  pub all : all_taken folders ≡ Ok taken
  pub first : (kind : Kind) (url : Text) → at_url kind url definitions ≡ option_map (λ t. t.definition.tree) (find (is_of kind url) taken)

-- ---- why nothing is made

-- A fault says of the folders' files that they are no JSON, or nothing: then it is of a device, or memory ran out.
abbrev pub IsAnswer : GatherFault → Result (List Taken) FileAt → Type 0
IsAnswer Exists answer = Unit {0}
IsAnswer Left answer = Unit {0}
IsAnswer (Unlisted folder) answer = Unit {0}
IsAnswer (Unreadable folder file) answer = Unit {0}
IsAnswer (NotJson folder file) answer = answer ≡ Err (string_bytes folder, string_bytes file)
IsAnswer (Unwritten name) answer = Unit {0}
IsAnswer NoMemory answer = Unit {0}

-- the fault says nothing of the folders' files
abbrev pub SaysNothing : GatherFault → Type 0
SaysNothing fault = (answer : Result (List Taken) FileAt) → IsAnswer fault answer
