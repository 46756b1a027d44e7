use Rattle.std.proofs.Common.{◌≡◌, ◌++◌, map, take}
use Rattle.fhir_archives.specs.Views.{archive_seen}
use Rattle.fhir_gather.specs.PackageTrees.{package_seen}
use Rattle.fhir_gather.proofs.package_trees.archives_of.Given as goal

abbrev pub invariant-loop-tree : goal.invariant-loop-tree
invariant-loop-tree l = map archive_seen l.archives.items ≡ map package_seen (take l.tree-index l.trees)
