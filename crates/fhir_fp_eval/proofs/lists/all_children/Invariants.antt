use Rattle.std.proofs.Common.{◌≡◌, ◌++◌, drop}
use Rattle.fhir_instance.specs.Items.{kids_of}
use Rattle.fhir_fp_values.specs.Views.{plains_of}
use Rattle.fhir_fp_eval.specs.Meaning.{below, all_kids}
use Rattle.fhir_fp_eval.proofs.lists.all_children.Given as goal

abbrev pub invariant-loop-value : goal.invariant-loop-value
invariant-loop-value l =
    plains_of l.out.items ++ below (λ x. all_kids (kids_of x)) (plains_of (drop l.value-index l.values)) ≡ below (λ x. all_kids (kids_of x)) (plains_of l.values)
