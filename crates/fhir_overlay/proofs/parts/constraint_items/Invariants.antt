use Rattle.std.proofs.Common.{◌≡◌, map, take}
use Rattle.fhir_json.specs.Views.{trees_of}
use Rattle.fhir_overlay.specs.Json.{constraint_tree}
use Rattle.fhir_overlay.proofs.parts.constraint_items.Given as goal

abbrev pub invariant-loop-constraint : goal.invariant-loop-constraint
invariant-loop-constraint l = trees_of l.items.items ≡ map constraint_tree (take l.constraint-index l.constraints)
