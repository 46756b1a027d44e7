use Rattle.std.proofs.Common.{◌≡◌, map, take}
use Rattle.fhir_json.specs.Views.{trees_of}
use Rattle.fhir_elements.specs.Constraint.{constraint_of}
use Rattle.fhir_elements.proofs.constraint.constraints_of.Given as goal

abbrev pub invariant-loop-item : goal.invariant-loop-item
invariant-loop-item l = l.constraints.items ≡ map constraint_of (trees_of (take l.item-index l.items))
