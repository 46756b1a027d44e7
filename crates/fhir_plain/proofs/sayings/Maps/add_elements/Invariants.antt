use Rattle.std.proofs.Common.{List, ◌++◌, take}
use Rattle.std.specs.List.{flat_map}
use Rattle.fhir_json.specs.Tree.{Tree}
use Rattle.fhir_json.specs.Views.{trees_of}
use Rattle.fhir_plain.specs.Kept.{Says}
use Rattle.fhir_plain.specs.Sayings.{constraints_of}
use Rattle.fhir_plain.proofs.sayings.Maps.add_elements.Given as goal

abbrev pub invariant-loop-element : goal.invariant-loop-element
invariant-loop-element l =
    (before : List Tree) → Says l.fn.self before → Says l.self (before ++ flat_map constraints_of (trees_of (take l.element-index l.elements)))
