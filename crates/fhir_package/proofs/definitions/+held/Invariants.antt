use Rattle.std.proofs.Common.{◌≡◌, ◌+◌, ◌*◌, ◌++◌}
use Rattle.std.specs.List.{flat_map}
use Rattle.fhir_json.specs.Views.{trees_of}
use Rattle.fhir_package.specs.Packing.{in_entry}
use Rattle.fhir_package.proofs.definitions.+held.Given as goal

abbrev pub decreases-push_held : goal.decreases-push_held
decreases-push_held l = 3 * l.levels

abbrev pub decreases-push_entry : goal.decreases-push_entry
decreases-push_entry l = 3 * l.levels + 1

abbrev pub decreases-push_entries : goal.decreases-push_entries
decreases-push_entries l = 3 * l.levels + 2

abbrev pub invariant-push_entries-loop-entry : goal.invariant-push_entries-loop-entry
invariant-push_entries-loop-entry l =
    l.fn.into.items ++ flat_map (in_entry l.levels) (trees_of l.fn.entries.items)
    ≡ l.into.items ++ flat_map (in_entry l.levels) (trees_of l.entry-iterator.rest.items)
