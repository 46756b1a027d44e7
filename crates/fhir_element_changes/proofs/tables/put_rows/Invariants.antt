use Rattle.std.proofs.Common.{◌≡◌, drop}
use Rattle.fhir_markup.specs.Views.{element_node}
use Rattle.fhir_element_changes.specs.Tables.{rows, with_nodes}
use Rattle.fhir_element_changes.specs.Views.{changes_seen}
use Rattle.fhir_element_changes.proofs.tables.put_rows.Given as goal

abbrev pub invariant-loop-change : goal.invariant-loop-change
invariant-loop-change l =
    with_nodes (element_node l.into) (rows l.failing l.changed.node (changes_seen (drop l.change-index l.changed.changes.items)))
    ≡ with_nodes (element_node l.fn.into) (rows l.failing l.changed.node (changes_seen l.changed.changes.items))
