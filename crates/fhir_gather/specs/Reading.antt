-- What is gathered of folders that were read. A first file that the device didn't give, or else a first one that is no JSON, is the
-- refusal.
use Rattle.std.specs.Prelude.{ℕ, List, [], ◌∷◌, map, find, Option, None, Some, Result, Ok, Err, unwrap_or}
use Rattle.std.specs.Option.{option_map, option_or}
use Rattle.fhir_json.specs.declared.fault.JsonFault.{JsonFault}
use Rattle.fhir_json.specs.Tree.{Text, Tree}
use Rattle.fhir_json.specs.Reading.{reading}
use Rattle.fhir_package.specs.Folder.{Files}
use Rattle.fhir_package.specs.Packing.{and_then}
use Rattle.fhir_package.specs.ReadFiles.{ReadFiles, is_unreadable_file}
use Rattle.fhir_gather.specs.Gathering.{Taken, Folders, FileAt, Gathered, nothing_gathered, gather_each, gathered, taken_in}

-- folders that were read: each one's name, and its JSON files, each with its bytes where the device gave them
abbrev pub ReadFolders : Type 0
ReadFolders = List (Text × ReadFiles)

-- ---- files that were not given

-- the name of the first file without bytes
abbrev pub first_unread_name : ReadFiles → Option Text
first_unread_name files = option_map (λ f. f.0) (find is_unreadable_file files)

-- the first file without bytes
abbrev pub first_unread : ReadFolders → Option FileAt
first_unread [] = None
first_unread (x ∷ xs) = option_or (option_map (λ n. (x.0, n)) (first_unread_name x.1)) (first_unread xs)

-- ---- files that were given

-- a file with its bytes; none stand for those that were not given
abbrev pub with_bytes : Text × Option (List ℕ) → Text × List ℕ
with_bytes f = (f.0, unwrap_or f.1 [])

abbrev pub files_with_bytes : ReadFiles → Files
files_with_bytes files = map with_bytes files

abbrev pub folders_with_bytes : ReadFolders → Folders
folders_with_bytes folders = map (λ x. (x.0, files_with_bytes x.1)) folders

-- the definitions of a file gathered, or the file, where it is no JSON
abbrev pub gather_tree : Text → Text → Result Tree JsonFault → Gathered → Result Gathered FileAt
gather_tree folder file (Ok t) g = Ok (gather_each (taken_in folder file t) g)
gather_tree folder file (Err fault) g = Err (folder, file)

-- those of files, one after the other, or the first that is no JSON
abbrev pub gather_files : Text → Files → Gathered → Result Gathered FileAt
gather_files folder [] g = Ok g
gather_files folder (f ∷ fs) g = and_then (gather_files folder fs) (gather_tree folder f.0 (reading f.1) g)

-- those of folders, one after the other, or the first file that is no JSON
abbrev pub gather_folders : Folders → Gathered → Result Gathered FileAt
gather_folders [] g = Ok g
gather_folders (x ∷ xs) g = and_then (gather_folders xs) (gather_files x.0 x.1 g)

-- a file that is no JSON, or what is gathered
abbrev pub or_file : Option FileAt → Gathered → Result Gathered FileAt
or_file None g = Ok g
or_file (Some file) g = Err file

-- ---- what is gathered

-- why nothing is gathered
pub data Refusal : Type 0 where
  -- the device didn't give this file
  unreadable : FileAt → Refusal
  -- this file is no JSON
  not_json : FileAt → Refusal

abbrev pub or_refusal : {X : Type 0} → Result X FileAt → Result X Refusal
or_refusal (Ok x) = Ok x
or_refusal (Err file) = Err (not_json file)

abbrev pub gather_unless : Option FileAt → Folders → Result Gathered Refusal
gather_unless None folders = or_refusal (gather_folders folders nothing_gathered)
gather_unless (Some file) folders = Err (unreadable file)

-- what is gathered of folders that were read, or why nothing is
abbrev pub gather : ReadFolders → Result Gathered Refusal
gather folders = gather_unless (first_unread folders) (folders_with_bytes folders)

-- ---- the same by all definitions

-- what is gathered of definitions, or the file for which there are none
abbrev pub gathered_of : Result (List Taken) FileAt → Result Gathered FileAt
gathered_of (Ok ts) = Ok (gathered ts)
gathered_of (Err file) = Err file
