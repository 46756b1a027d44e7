use Rattle.std.proofs.Common.{◌≡◌, map, take}
use Rattle.fhir_json.specs.Views.{trees_of}
use Rattle.fhir_elements.specs.Element.{fields_of}
use Rattle.fhir_inheritance.proofs.sources.all_fields.Given as goal

abbrev pub invariant-loop-tree : goal.invariant-loop-tree
invariant-loop-tree l = l.all.items ≡ map fields_of (trees_of (take l.tree-index l.trees))
