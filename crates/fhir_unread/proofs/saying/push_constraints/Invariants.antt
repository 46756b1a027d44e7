use Rattle.std.proofs.Common.{◌≡◌, ◌++◌, drop}
use Rattle.std.specs.List.{flat_map}
use Rattle.fhir_json.specs.Views.{trees_of}
use Rattle.fhir_unread.specs.Sayings.{saying_of}
use Rattle.fhir_unread.specs.Seen.{sayings_seen}
use Rattle.fhir_unread.proofs.saying.push_constraints.Given as goal

abbrev pub invariant-loop-constraint : goal.invariant-loop-constraint
invariant-loop-constraint l =
    sayings_seen l.into.items ++ flat_map (saying_of l.url l.id) (trees_of (drop l.constraint-index l.constraints))
    ≡ sayings_seen l.fn.into.items ++ flat_map (saying_of l.url l.id) (trees_of l.constraints)
