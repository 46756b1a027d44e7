use Rattle.std.proofs.Common.{◌≡◌, map, take}
use Rattle.fhir_json.specs.Views.{trees_of}
use Rattle.fhir_overlay.specs.Json.{element_tree}
use Rattle.fhir_overlay.proofs.completed.element_items.Given as goal

abbrev pub invariant-loop-element : goal.invariant-loop-element
invariant-loop-element l = trees_of l.items.items ≡ map element_tree (take l.element-index l.elements)
