use Rattle.std.proofs.Common.{◌≡◌, is_none, drop}
use Rattle.std.specs.List.{list_all}
use Rattle.fhir_json.specs.Views.{trees_of}
use Rattle.fhir_elements.specs.Element.{element_fault}
use Rattle.fhir_snapshot.proofs.reading.wrong_element.Given as goal

abbrev pub invariant-loop-tree : goal.invariant-loop-tree
invariant-loop-tree l =
    list_all (λ e. is_none (element_fault e)) (trees_of (drop l.tree-index l.trees)) ≡ list_all (λ e. is_none (element_fault e)) (trees_of l.trees)
