use Rattle.std.proofs.Common.{List, ◌++◌, take}
use Rattle.fhir_json.specs.Tree.{Tree}
use Rattle.fhir_json.specs.Views.{trees_of}
use Rattle.fhir_plain.specs.Kept.{Says}
use Rattle.fhir_plain.proofs.sayings.Maps.add_constraints.Given as goal

abbrev pub invariant-loop-constraint : goal.invariant-loop-constraint
invariant-loop-constraint l = (before : List Tree) → Says l.fn.self before → Says l.self (before ++ trees_of (take l.constraint-index l.constraints))
