use Rattle.std.proofs.Common.{◌≡◌, map, take}
use Rattle.fhir_json.specs.Views.{trees_of}
use Rattle.fhir_elements.specs.Element.{fields_of}
use Rattle.fhir_definition.proofs.elements.elements_of.Given as goal

abbrev pub invariant-loop-item : goal.invariant-loop-item
invariant-loop-item l = l.elements.items ≡ map fields_of (trees_of (take l.item-index l.items))
