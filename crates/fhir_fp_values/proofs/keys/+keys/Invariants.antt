use Rattle.std.proofs.Common.{◌≡◌, ◌+◌, ◌*◌, ◌++◌, drop}
use Rattle.std.specs.Prelude.{string_bytes}
use Rattle.fhir_instance.specs.Items.{kids_of, kids_in}
use Rattle.fhir_instance.specs.View.{item_of, named_of, named_in}
use Rattle.fhir_fp_values.specs.Keys.{written, keyed_kids}
use Rattle.fhir_fp_values.specs.Pairing.{kids_seen, height, heights, heights_seen}
use Rattle.fhir_fp_values.proofs.keys.+keys.Given as goal

abbrev pub decreases-push_item : goal.decreases-push_item
decreases-push_item l = 5 * height (item_of l.item.now)

abbrev pub decreases-push_kid : goal.decreases-push_kid
decreases-push_kid l = 5 * height (named_of l.kid.now).1 + 1

abbrev pub decreases-push_sorted : goal.decreases-push_sorted
decreases-push_sorted l = 5 * heights_seen l.kids.now + 2

abbrev pub decreases-push_kids : goal.decreases-push_kids
decreases-push_kids l = 5 * heights (kids_in (named_in l.kids.now)) + 3

abbrev pub decreases-push_parts : goal.decreases-push_parts
decreases-push_parts l = 5 * heights (kids_of (item_of l.item.now)) + 4

abbrev pub invariant-push_sorted-loop-one : goal.invariant-push_sorted-loop-one
invariant-push_sorted-loop-one l =
    string_bytes l.key ++ written (keyed_kids (kids_in (kids_seen (drop l.one-index l.kids))))
    ≡ string_bytes l.initial.key ++ written (keyed_kids (kids_in (kids_seen l.kids)))
