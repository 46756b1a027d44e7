use Rattle.std.proofs.Common.{◌+◌, ◌*◌}
use Rattle.fhir_candidates.proofs.making.+making.Given as goal

abbrev pub decreases-put_item : goal.decreases-put_item
decreases-put_item l = 8 * l.levels + 6

abbrev pub decreases-put_resource : goal.decreases-put_resource
decreases-put_resource l = 8 * l.levels + 5

abbrev pub decreases-put_object : goal.decreases-put_object
decreases-put_object l = 8 * l.levels + 5

abbrev pub decreases-put_children : goal.decreases-put_children
decreases-put_children l = 8 * l.levels + 4

abbrev pub decreases-put_child : goal.decreases-put_child
decreases-put_child l = 8 * l.levels + 3

abbrev pub decreases-put_items : goal.decreases-put_items
decreases-put_items l = 8 * l.levels + 2

abbrev pub decreases-put_below : goal.decreases-put_below
decreases-put_below l = 8 * l.levels + 1
