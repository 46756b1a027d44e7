-- What is gathered of folders that were read, and all definitions that stand in the folders.
use Rattle.std.proofs.Common.{◌≡◌, ℕ, cond, List, [], ◌∷◌, ◌++◌, map, Option, None, Some, Result, Ok, Err, refl, sym, ap, subst, ◌∙◌, append_assoc, append-nil}
use Rattle.std.specs.Prelude.{find, is_none, unwrap_or}
use Rattle.std.specs.Option.{option_map, option_or}
use Rattle.fhir_json.specs.declared.fault.JsonFault.{JsonFault}
use Rattle.fhir_json.specs.Tree.{Text, Tree}
use Rattle.fhir_json.specs.Reading.{reading}
use Rattle.fhir_package.specs.Folder.{Files}
use Rattle.fhir_package.specs.Packing.{and_then}
use Rattle.fhir_package.specs.ReadFiles.{ReadFiles, is_unreadable_file, given, given_before, all_given}
use Rattle.fhir_package.proofs.Given.{given-all_given, folder_given}
use Rattle.fhir_gather.specs.Gathering.{Taken, Folders, FileAt, taken_in, take_tree, take_files, take_folders, all_taken, Gathered, gathered, nothing_gathered}
use Rattle.fhir_gather.specs.Reading.{ReadFolders, first_unread_name, first_unread, files_with_bytes, folders_with_bytes, gather_tree, gather_files, gather_folders, or_refusal, unreadable, gather_unless, gather, gathered_of}
use Rattle.fhir_gather.specs.Found.{given_folders}
use Rattle.fhir_gather.specs.Making.{with_json_files, IsRead, AreRead}
use Rattle.fhir_gather.proofs.Keeping.{each-behind}

-- ---- one after the other, or all at once

tree_gathered : (folder file : Text) (r : Result Tree JsonFault) (ts : List Taken) → gather_tree folder file r (gathered ts) ≡ gathered_of (take_tree folder file r ts)
tree_gathered folder file (Ok t) ts = ap (λ (g : Gathered). Ok g) (sym (each-behind ts (taken_in folder file t) nothing_gathered))
tree_gathered folder file (Err fault) ts = refl

goes_on : (f : List Taken → Result (List Taken) FileAt) (g : Gathered → Result Gathered FileAt) → ((ts : List Taken) → g (gathered ts) ≡ gathered_of (f ts))
    → (r : Result (List Taken) FileAt) → and_then g (gathered_of r) ≡ gathered_of (and_then f r)
goes_on f g same (Ok ts) = same ts
goes_on f g same (Err file) = refl

files_gathered : (folder : Text) (fs : Files) (ts : List Taken) → gather_files folder fs (gathered ts) ≡ gathered_of (take_files folder fs ts)
files_gathered folder [] ts = refl
files_gathered folder (f ∷ fs) ts =
    ap (and_then (gather_files folder fs)) (tree_gathered folder f.0 (reading f.1) ts)
    ∙ goes_on (take_files folder fs) (gather_files folder fs) (files_gathered folder fs) (take_tree folder f.0 (reading f.1) ts)

folders_gathered : (xs : Folders) (ts : List Taken) → gather_folders xs (gathered ts) ≡ gathered_of (take_folders xs ts)
folders_gathered [] ts = refl
folders_gathered (x ∷ xs) ts =
    ap (and_then (gather_folders xs)) (files_gathered x.0 x.1 ts)
    ∙ goes_on (take_folders xs) (gather_folders xs) (folders_gathered xs) (take_files x.0 x.1 ts)

pub all_gathered : (xs : Folders) → gather_folders xs nothing_gathered ≡ gathered_of (all_taken xs)
all_gathered xs = folders_gathered xs []

-- ---- files with their bytes

no_first : (o : Option (Text × Option (List ℕ))) → option_map (λ f. f.0) o ≡ None → o ≡ None
no_first None h = refl
no_first (Some f) h = absurd cc

all_with_bytes : (fs : ReadFiles) → find is_unreadable_file fs ≡ None → all_given fs ≡ Some (files_with_bytes fs)
all_with_bytes [] h = refl
all_with_bytes (f ∷ fs) h = by f.1 (all_with_bytes fs) h
  where
    by : (bytes : Option (List ℕ)) → (find is_unreadable_file fs ≡ None → all_given fs ≡ Some (files_with_bytes fs))
        → cond (is_none bytes) (Some f) (find is_unreadable_file fs) ≡ None → given_before f.0 bytes (all_given fs) ≡ Some ((f.0, unwrap_or bytes []) ∷ files_with_bytes fs)
    by None rest h = absurd cc
    by (Some bytes) rest h = ap (given_before f.0 (Some bytes)) (rest h)

none_unread : (x : Text × ReadFiles) (xs : ReadFolders) → first_unread (x ∷ xs) ≡ None → (find is_unreadable_file x.1 ≡ None) × (first_unread xs ≡ None)
none_unread x xs h = by (first_unread_name x.1) refl h
  where
    by : (name : Option Text) → first_unread_name x.1 ≡ name → option_or (option_map (λ n. (x.0, n)) name) (first_unread xs) ≡ None
        → (find is_unreadable_file x.1 ≡ None) × (first_unread xs ≡ None)
    by None is h = (no_first (find is_unreadable_file x.1) is, h)
    by (Some name) is h = absurd cc

pub all_were_given : (xs : ReadFolders) → first_unread xs ≡ None → xs ≡ given_folders (folders_with_bytes xs)
all_were_given [] h = refl
all_were_given (x ∷ xs) h =
    let both = none_unread x xs h in
    ap (λ (fs : ReadFiles). (x.0, fs) ∷ xs) (given-all_given x.1 (files_with_bytes x.1) (all_with_bytes x.1 both.0))
    ∙ ap (λ (ys : ReadFolders). (x.0, given (files_with_bytes x.1)) ∷ ys) (all_were_given xs both.1)

bytes_given : (fs : Files) → files_with_bytes (given fs) ≡ fs
bytes_given [] = refl
bytes_given (f ∷ fs) = ap (λ (gs : Files). f ∷ gs) (bytes_given fs)

folders_given : (xs : Folders) → folders_with_bytes (given_folders xs) ≡ xs
folders_given [] = refl
folders_given (x ∷ xs) =
    ap (λ (fs : Files). (x.0, fs) ∷ folders_with_bytes (given_folders xs)) (bytes_given x.1) ∙ ap (λ (ys : Folders). x ∷ ys) (folders_given xs)

none_unread_given : (fs : Files) → find is_unreadable_file (given fs) ≡ None
none_unread_given [] = refl
none_unread_given (f ∷ fs) = none_unread_given fs

all_read_given : (xs : Folders) → first_unread (given_folders xs) ≡ None
all_read_given [] = refl
all_read_given (x ∷ xs) =
    ap (λ (o : Option (Text × Option (List ℕ))). option_or (option_map (λ n. (x.0, n)) (option_map (λ f. f.0) o)) (first_unread (given_folders xs))) (none_unread_given x.1)
    ∙ all_read_given xs

-- folders that were read whole are gathered as all definitions in them
pub given_gathered : (xs : Folders) → gather (given_folders xs) ≡ or_refusal (gathered_of (all_taken xs))
given_gathered xs =
    ap (λ (o : Option FileAt). gather_unless o (folders_with_bytes (given_folders xs))) (all_read_given xs)
    ∙ ap (λ (ys : Folders). or_refusal (gather_folders ys nothing_gathered)) (folders_given xs) ∙ ap or_refusal (all_gathered xs)

pub unread_refused : (xs : ReadFolders) (file : FileAt) → first_unread xs ≡ Some file → gather xs ≡ Err (unreadable file)
unread_refused xs file is = ap (λ (o : Option FileAt). gather_unless o (folders_with_bytes xs)) is

-- ---- the folders that were read

pub same_folders : (xs : Folders) (rs : ReadFolders) → AreRead xs rs → first_unread rs ≡ None → folders_with_bytes rs ≡ map with_json_files xs
same_folders [] [] h none = refl
same_folders [] (r ∷ rs) h none = absurd h
same_folders (x ∷ xs) [] h none = absurd h
same_folders (x ∷ xs) (r ∷ rs) h none =
    let both = none_unread r rs none in
    ap (λ (n : Text). (n, files_with_bytes r.1) ∷ folders_with_bytes rs) h.0.name
    ∙ ap (λ (fs : Files). (x.0, fs) ∷ folders_with_bytes rs) (folder_given x.1 r.1 (files_with_bytes r.1) h.0.names h.0.bytes (all_with_bytes r.1 both.0))
    ∙ ap (λ (ys : Folders). with_json_files x ∷ ys) (same_folders xs rs h.1 both.1)

-- one more
pub read_more : (xs : Folders) (x : Text × Files) (rest : Folders) (read new : ReadFolders) (r : Text × ReadFiles)
    → ((more : ReadFolders) → AreRead (x ∷ rest) more → AreRead xs (read ++ more)) → new ≡ read ++ r ∷ [] → IsRead x r
    → (more : ReadFolders) → AreRead rest more → AreRead xs (new ++ more)
read_more xs x rest read new r goes is one more h =
    subst (λ (ys : ReadFolders). AreRead xs ys) (sym (append_assoc read (r ∷ []) more) ∙ ap (λ (ys : ReadFolders). ys ++ more) (sym is)) (goes (r ∷ more) (one, h))

pub read_all : (xs : Folders) (read : ReadFolders) → ((more : ReadFolders) → AreRead [] more → AreRead xs (read ++ more)) → AreRead xs read
read_all xs read goes = subst (λ (ys : ReadFolders). AreRead xs ys) (append-nil read) (goes [] tt)
