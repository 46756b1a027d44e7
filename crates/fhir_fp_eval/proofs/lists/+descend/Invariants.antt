use Rattle.std.proofs.Common.{◌≡◌, ◌++◌, map, drop}
use Rattle.fhir_instance.specs.Items.{kids_in}
use Rattle.fhir_instance.specs.View.{item_of, named_in}
use Rattle.fhir_fp_values.specs.Values.{node}
use Rattle.fhir_fp_values.specs.Views.{plains_of}
use Rattle.fhir_fp_eval.specs.Meaning.{descendants_in}
use Rattle.fhir_fp_values.specs.Pairing.{height}
use Rattle.fhir_fp_eval.proofs.lists.+descend.Given as goal

abbrev pub decreases-push_descendants : goal.decreases-push_descendants
decreases-push_descendants l = height (item_of l.item.now)

abbrev pub invariant-loop-kid : goal.invariant-loop-kid
invariant-loop-kid l =
    plains_of l.out.items ++ map node (descendants_in (kids_in (named_in (drop l.kid-index l.kid-items))))
    ≡ plains_of l.initial.out.items ++ map node (descendants_in (kids_in (named_in l.kid-items)))
