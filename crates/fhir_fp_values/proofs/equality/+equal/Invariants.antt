use Rattle.std.proofs.Common.{◌≡◌, ◌+◌, ◌*◌, drop}
use Rattle.fhir_instance.specs.Items.{kids_in}
use Rattle.fhir_instance.specs.View.{item_of, named_of, named_in}
use Rattle.fhir_fp_values.specs.Equality.{kleene_and}
use Rattle.fhir_fp_values.specs.Pairing.{kids_seen, pairwise, height, heights, heights_seen}
use Rattle.fhir_fp_values.proofs.equality.+equal.Given as goal

abbrev pub decreases-equal : goal.decreases-equal
decreases-equal l = 4 * height (item_of l.left.now)

abbrev pub decreases-equal_named : goal.decreases-equal_named
decreases-equal_named l = 4 * height (named_of l.left.now).1 + 1

abbrev pub decreases-pairwise : goal.decreases-pairwise
decreases-pairwise l = 4 * heights_seen l.left.now + 2

abbrev pub decreases-by_name : goal.decreases-by_name
decreases-by_name l = 4 * heights (kids_in (named_in l.left.now)) + 3

abbrev pub invariant-pairwise-loop-one : goal.invariant-pairwise-loop-one
invariant-pairwise-loop-one l =
    kleene_and l.all (pairwise (kids_seen (drop l.one-index l.left)) (kids_seen l.rest)) ≡ pairwise (kids_seen l.left) (kids_seen l.right)
