use Rattle.std.proofs.Common.{◌≡◌, drop}
use Rattle.std.specs.List.{flat_map}
use Rattle.fhir_json.specs.Views.{trees_of}
use Rattle.fhir_reach.specs.Keys.{with_keys}
use Rattle.fhir_reach.specs.Naming.{element_keys}
use Rattle.fhir_reach.proofs.naming.add_elements.Given as goal

abbrev pub invariant-loop-element : goal.invariant-loop-element
invariant-loop-element l = with_keys l.found (flat_map element_keys (trees_of (drop l.element-index l.elements))) ≡ with_keys l.fn.found (flat_map element_keys (trees_of l.elements))
