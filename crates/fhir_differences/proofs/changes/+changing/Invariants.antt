use Rattle.std.proofs.Common.{◌+◌, ◌*◌}
use Rattle.fhir_differences.proofs.changes.+changing.Given as goal

abbrev pub decreases-push_entry : goal.decreases-push_entry
decreases-push_entry l = 8 * l.levels + 7

abbrev pub decreases-push_below : goal.decreases-push_below
decreases-push_below l = 8 * l.levels + 6

abbrev pub decreases-push_item : goal.decreases-push_item
decreases-push_item l = 8 * l.levels + 5

abbrev pub decreases-push_profiles : goal.decreases-push_profiles
decreases-push_profiles l = 8 * l.levels + 4

abbrev pub decreases-push_named : goal.decreases-push_named
decreases-push_named l = 8 * l.levels + 3

abbrev pub decreases-push_root : goal.decreases-push_root
decreases-push_root l = 8 * l.levels + 2

abbrev pub decreases-push_kids : goal.decreases-push_kids
decreases-push_kids l = 8 * l.levels + 1
