use Rattle.std.proofs.Common.{IsTrue}
use Rattle.std.specs.List.{list_all}
use Rattle.fhir_element_changes.specs.Changes.{is_change}
use Rattle.fhir_element_changes.specs.Views.{changes_seen}
use Rattle.fhir_element_changes.proofs.changes.changes_between.Given as goal

abbrev pub invariant-loop-aspect : goal.invariant-loop-aspect
invariant-loop-aspect l = IsTrue (list_all is_change (changes_seen l.changes.items))
