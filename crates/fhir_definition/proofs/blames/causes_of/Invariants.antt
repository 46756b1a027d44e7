use Rattle.std.proofs.Common.{◌≡◌, map, take}
use Rattle.fhir_json.specs.Views.{trees_of}
use Rattle.fhir_elements.specs.Element.{element_fault}
use Rattle.fhir_definition.specs.Cases.{reasons_of}
use Rattle.fhir_definition.proofs.blames.causes_of.Given as goal

abbrev pub invariant-loop-item : goal.invariant-loop-item
invariant-loop-item l = reasons_of l.causes.items ≡ map element_fault (trees_of (take l.item-index l.items))
