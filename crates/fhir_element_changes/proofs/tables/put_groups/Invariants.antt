use Rattle.std.proofs.Common.{◌≡◌, drop, map}
use Rattle.fhir_markup.specs.Views.{element_node}
use Rattle.fhir_element_changes.specs.Tables.{group, with_nodes}
use Rattle.fhir_element_changes.specs.Views.{all_changed}
use Rattle.fhir_element_changes.proofs.tables.put_groups.Given as goal

abbrev pub invariant-loop-changed : goal.invariant-loop-changed
invariant-loop-changed l =
    with_nodes (element_node l.into) (map (group l.failing) (all_changed (drop l.changed-index l.elements)))
    ≡ with_nodes (element_node l.fn.into) (map (group l.failing) (all_changed l.elements))
