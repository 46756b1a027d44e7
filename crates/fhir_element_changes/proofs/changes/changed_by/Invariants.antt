use Rattle.std.proofs.Common.{IsTrue}
use Rattle.std.specs.List.{list_all}
use Rattle.fhir_element_changes.specs.Changes.{is_changed}
use Rattle.fhir_element_changes.specs.Views.{all_changed}
use Rattle.fhir_element_changes.proofs.changes.changed_by.Given as goal

abbrev pub invariant-loop-element_place : goal.invariant-loop-element_place
invariant-loop-element_place l = IsTrue (list_all (is_changed l.place) (all_changed l.changed.items))
