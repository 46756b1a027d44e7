-- Where the definitions of a folder stand: in its files, and there in the trees and the entries of Bundles.
use Rattle.std.specs.Prelude.{◌≡◌, List, [], ◌∷◌, false, Contains, IsTrue, codes}
use Rattle.std.specs.Option.{option_map_or}
use Rattle.std.specs.Map.{keys_of}
use Rattle.fhir_json.specs.Tree.{Text, Tree}
use Rattle.fhir_json.specs.Fields.{field}
use Rattle.fhir_json.specs.Grammar.{Reads}
use Rattle.fhir_matching.specs.Equality.{equal}
use Rattle.fhir_package.specs.declared.kind.Kind.{Kind}
use Rattle.fhir_package.specs.Folder.{Files}
use Rattle.fhir_package.specs.Packing.{Definition, definition_of, definitions_in, is_json_name, bytes_at}

-- the definition stands in a file of the folder: one whose name ends in `.json` is the text of a tree that holds it
pub record IsInFolder (files : Files) (d : Definition) : Type 0 where
  pub name : Text
  pub listed : Contains (keys_of files) name
  pub is_json : IsTrue (is_json_name name)
  pub tree : Tree
  pub text : Reads (bytes_at files name) tree
  pub held : Contains (definitions_in tree) d

-- two definitions of one kind and that url stand in files of the folder, and they aren't equal
pub record Clashes (files : Files) (url : Text) : Type 0 where
  pub kind : Kind
  pub first : Tree
  pub second : Tree
  pub first_there : IsInFolder files (record { kind = kind; url = url; tree = first })
  pub second_there : IsInFolder files (record { kind = kind; url = url; tree = second })
  pub unequal : equal first second ≡ false

-- ---- what a tree holds

-- the definition that a tree is, if it is one
abbrev pub itself : Tree → List Definition
itself t = option_map_or (λ d. d ∷ []) (definition_of t) []

-- the definitions that the resource of an entry holds, if it has one
abbrev pub in_resource : Tree → List Definition
in_resource e = option_map_or definitions_in (field (codes "resource") e) []
