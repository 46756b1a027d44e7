use Rattle.std.proofs.Common.{◌≡◌, drop}
use Rattle.std.specs.List.{list_all}
use Rattle.fhir_json.specs.Views.{trees_of}
use Rattle.fhir_elements.specs.Constraint.{is_constraint}
use Rattle.fhir_elements.proofs.constraint.are_constraints.Given as goal

abbrev pub invariant-loop-item : goal.invariant-loop-item
invariant-loop-item l = list_all is_constraint (trees_of (drop l.item-index l.items)) ≡ list_all is_constraint (trees_of l.items)
