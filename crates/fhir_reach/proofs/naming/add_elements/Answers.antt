use Rattle.std.proofs.Common.{List, refl}
use Rattle.std.specs.List.{flat_map}
use Rattle.fhir_json.specs.declared.json.Json.{Json}
use Rattle.fhir_json.specs.Views.{tree_of, trees_of}
use Rattle.fhir_reach.specs.Naming.{element_keys}
use Rattle.fhir_reach.proofs.Adding.{next}
use Rattle.fhir_reach.proofs.naming.add_elements.Goals as goal

pub loop-element-preserved : goal.loop-element-preserved
loop-element-preserved c =
    next (λ (xs : List Json). flat_map element_keys (trees_of xs)) (λ (x : Json). element_keys (tree_of x)) (λ x xs. refl) c.args.elements.now c.loop-element.element-index c.element-item.result
    c.loop-element.found c.add_element.new.found _ c.loop-element-test.true c.element-item.is c.in_ok-add_element.ensures c.loop-element.invariant
