use Rattle.std.proofs.Common.{◌≡◌, drop}
use Rattle.fhir_json.specs.Views.{trees_of}
use Rattle.fhir_registry.specs.Session.{definitions_of}
use Rattle.fhir_registry.proofs.Definitions.{with_others}
use Rattle.fhir_registry.proofs.registry.definitions_of.Given as goal

abbrev pub invariant-loop-tree : goal.invariant-loop-tree
invariant-loop-tree l = with_others l.all.items (trees_of (drop l.tree-index l.trees)) ≡ definitions_of (trees_of l.trees)
