use Rattle.std.proofs.Common.{◌≡◌, ◌++◌, map, drop}
use Rattle.fhir_gather.specs.FolderViews.{read_folders}
use Rattle.fhir_gather.specs.PackageTrees.{package_trees, package_seen}
use Rattle.fhir_gather.proofs.package_trees.trees_of_packages.Given as goal

abbrev pub invariant-loop-folder : goal.invariant-loop-folder
invariant-loop-folder l =
    map package_seen l.all.items ++ package_trees (read_folders (drop l.folder-index l.folders)) ≡ package_trees (read_folders l.folders)
