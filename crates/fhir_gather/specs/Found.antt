-- What is said of definitions that are gathered: which of them are dropped, and what the names of their files are.
use Rattle.std.specs.Prelude.{◌≢◌, List, Some, Contains, IsTrue, slice_get, map}
use Rattle.fhir_json.specs.Tree.{Text, Tree}
use Rattle.fhir_json.specs.Bytes.{dot, slash}
use Rattle.fhir_names.specs.Texts.{lacks}
use Rattle.fhir_package.specs.Packing.{is_json_name}
use Rattle.fhir_package.specs.ReadFiles.{given}
use Rattle.fhir_package.specs.Changing.{is_same}
use Rattle.fhir_gather.specs.Gathering.{Taken, Folders, kept, dropped, dropped_for}
use Rattle.fhir_gather.specs.Reading.{ReadFolders}

-- of these the second is dropped: the first, of the same kind and url, is kept
pub record IsDropped (ts : List Taken) (first second : Taken) : Type 0 where
  pub is_kept : Contains (kept ts) first
  pub is_taken : Contains ts second
  pub is_same : IsTrue (is_same second.definition first.definition)
  pub told : Contains (dropped ts) (dropped_for first second)

-- the name of a JSON file that any folder can have, and that isn't hidden
pub record IsFileName (name : Text) : Type 0 where
  pub is_json : IsTrue (is_json_name name)
  pub no_slash : IsTrue (lacks slash name)
  pub no_zero : IsTrue (lacks 0 name)
  pub not_hidden : slice_get name 0 ≢ Some dot

-- the url and the tree of a definition
abbrev pub entry_of : Taken → Text × Tree
entry_of t = (t.definition.url, t.definition.tree)

-- folders that were read whole
abbrev pub given_folders : Folders → ReadFolders
given_folders folders = map (λ x. (x.0, given x.1)) folders
