-- What is gathered from folders: of each kind and url the first definition, by the order of the folders, in a folder by that of
-- its files, and in a file by that of its definitions.
use Rattle.std.specs.Prelude.{List, [], ◌∷◌, ◌++◌, map, find, Bool, ◌&&◌, Option, None, Some, Result, Ok, Err, codes}
use Rattle.std.specs.List.{list_any}
use Rattle.std.specs.Str.{bytes_eq}
use Rattle.fhir_json.specs.declared.fault.JsonFault.{JsonFault}
use Rattle.fhir_json.specs.Tree.{Text, Tree}
use Rattle.fhir_json.specs.Fields.{text_in}
use Rattle.fhir_json.specs.Reading.{reading}
use Rattle.fhir_matching.specs.Equality.{equal}
use Rattle.fhir_package.specs.declared.kind.Kind.{Kind}
use Rattle.fhir_package.specs.Definitions.{Definitions, no_definitions}
use Rattle.fhir_package.specs.Folder.{Files}
use Rattle.fhir_package.specs.Packing.{Definition, definitions_in, with_definition, and_then}
use Rattle.fhir_package.specs.Changing.{is_same, is_same_kind}

-- ---- what stands in folders

-- a definition, and where it stands: the name of a folder, and that of a file in it
pub record Taken : Type 0 where
  pub folder : Text
  pub file : Text
  pub definition : Definition

-- folders: each one's name, and its JSON files in their order
abbrev pub Folders : Type 0
Folders = List (Text × Files)

-- the names of a folder and of a file in it
abbrev pub FileAt : Type 0
FileAt = Text × Text

-- definitions of a file
abbrev pub taken_each : Text → Text → List Definition → List Taken
taken_each folder file ds = map (λ d. record { folder = folder; file = file; definition = d }) ds

-- the definitions in the tree of a file, in order
abbrev pub taken_in : Text → Text → Tree → List Taken
taken_in folder file t = taken_each folder file (definitions_in t)

-- those of a file behind others, or the file, where it is no JSON
abbrev pub take_tree : Text → Text → Result Tree JsonFault → List Taken → Result (List Taken) FileAt
take_tree folder file (Ok t) ts = Ok (ts ++ taken_in folder file t)
take_tree folder file (Err fault) ts = Err (folder, file)

-- those of the files of a folder behind others, or the first file that is no JSON
abbrev pub take_files : Text → Files → List Taken → Result (List Taken) FileAt
take_files folder [] ts = Ok ts
take_files folder (f ∷ fs) ts = and_then (take_files folder fs) (take_tree folder f.0 (reading f.1) ts)

-- those of folders behind others, or the first file that is no JSON
abbrev pub take_folders : Folders → List Taken → Result (List Taken) FileAt
take_folders [] ts = Ok ts
take_folders (x ∷ xs) ts = and_then (take_folders xs) (take_files x.0 x.1 ts)

-- all definitions in folders, or the first file that is no JSON
abbrev pub all_taken : Folders → Result (List Taken) FileAt
all_taken folders = take_folders folders []

-- ---- which are kept

-- it is of that kind
abbrev pub is_of_kind : Kind → Taken → Bool
is_of_kind kind t = is_same_kind kind t.definition.kind

-- and of that url
abbrev pub is_of : Kind → Text → Taken → Bool
is_of kind url t = is_of_kind kind t && bytes_eq url t.definition.url

-- one of them is of the same kind and url
abbrev pub is_among : List Taken → Taken → Bool
is_among ts t = list_any (λ k. is_same t.definition k.definition) ts

-- where a definition stands, and its version, if it has one
pub record Origin : Type 0 where
  pub folder : Text
  pub file : Text
  pub version : Option Text

abbrev pub origin_of : Taken → Origin
origin_of t = record { folder = t.folder; file = t.file; version = text_in (codes "version") t.definition.tree }

-- what is told of a definition that isn't kept: its kind and url, where the one stands that is kept, where it stands itself, and
-- whether the two are equal
pub record Dropped : Type 0 where
  pub kind : Kind
  pub url : Text
  pub first : Origin
  pub second : Origin
  pub is_equal : Bool

-- what is told of the second, where the first is kept
abbrev pub dropped_for : Taken → Taken → Dropped
dropped_for first second = record {
  kind = second.definition.kind;
  url = second.definition.url;
  first = origin_of first;
  second = origin_of second;
  is_equal = equal first.definition.tree second.definition.tree;
}

-- the definitions that are kept, and what is told of those that aren't, both in the order of taking
pub record Gathered : Type 0 where
  pub kept : List Taken
  pub dropped : List Dropped

abbrev pub nothing_gathered : Gathered
nothing_gathered = record { kept = []; dropped = [] }

abbrev pub with_kept : Taken → Gathered → Gathered
with_kept t g = record g { kept = g.kept ++ t ∷ [] }

abbrev pub with_dropped : Dropped → Gathered → Gathered
with_dropped d g = record g { dropped = g.dropped ++ d ∷ [] }

-- one more, where this one of its kind and url is kept
abbrev pub gather_behind : Option Taken → Taken → Gathered → Gathered
gather_behind None t g = with_kept t g
gather_behind (Some first) t g = with_dropped (dropped_for first t) g

-- one more: it is kept unless one of its kind and url is
abbrev pub gather_one : Taken → Gathered → Gathered
gather_one t g = gather_behind (find (is_of t.definition.kind t.definition.url) g.kept) t g

-- more, one after the other
abbrev pub gather_each : List Taken → Gathered → Gathered
gather_each [] g = g
gather_each (t ∷ ts) g = gather_each ts (gather_one t g)

-- what is gathered of definitions
abbrev pub gathered : List Taken → Gathered
gathered ts = gather_each ts nothing_gathered

-- of definitions in turn those of which none before is of the same kind and url
abbrev pub kept : List Taken → List Taken
kept ts = (gathered ts).kept

-- what is told of each other one
abbrev pub dropped : List Taken → List Dropped
dropped ts = (gathered ts).dropped

-- ---- their package

-- definitions put in, each behind the others of its kind
abbrev pub with_each : List Taken → Definitions → Definitions
with_each [] p = p
with_each (t ∷ ts) p = with_each ts (with_definition t.definition p)

abbrev pub package_of : List Taken → Definitions
package_of ts = with_each ts no_definitions
