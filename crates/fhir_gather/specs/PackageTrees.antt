-- The files `package.json` of folders: each published package of definitions has one, which tells its name and what it depends on.
use Rattle.std.specs.Prelude.{ℕ, List, Option, filter_map, codes}
use Rattle.std.specs.Option.{option_map, option_and_then}
use Rattle.std.specs.Result.{result_ok}
use Rattle.std.specs.Map.{lookup}
use Rattle.std.specs.Str.{bytes_eq}
use Rattle.fhir_json.specs.Tree.{Text, Tree}
use Rattle.fhir_json.specs.Reading.{reading}
use Rattle.fhir_json.specs.Views.{tree_of}
use Rattle.fhir_package.specs.ReadFiles.{ReadFiles}
use Rattle.fhir_gather.specs.declared.package_trees.PackageTree.{PackageTree}
use Rattle.fhir_gather.specs.Reading.{ReadFolders}

-- the bytes of a file, where there is one of that name and the device gave them
abbrev pub bytes_named : Text → ReadFiles → Option (List ℕ)
bytes_named name files = option_and_then (λ bytes. bytes) (lookup (bytes_eq name) files)

-- a folder's name and the tree of its file, if it has one that is JSON
abbrev pub package_tree : Text × ReadFiles → Option (Text × Tree)
package_tree x = option_map (λ t. (x.0, t)) (option_and_then (λ bytes. result_ok (reading bytes)) (bytes_named (codes "package.json") x.1))

-- those of folders, in their order
abbrev pub package_trees : ReadFolders → List (Text × Tree)
package_trees folders = filter_map package_tree folders

-- a folder's name, and a tree
abbrev pub package_seen : PackageTree → Text × Tree
package_seen p = (p.folder.now, tree_of p.json)
