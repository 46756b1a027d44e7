use Rattle.std.proofs.Common.{◌≡◌, ◌++◌, drop}
use Rattle.fhir_fp_values.specs.Views.{plains_of}
use Rattle.fhir_fp_eval.specs.Meaning.{below, descendants}
use Rattle.fhir_fp_eval.proofs.lists.all_descendants.Given as goal

abbrev pub invariant-loop-value : goal.invariant-loop-value
invariant-loop-value l =
    plains_of l.out.items ++ below descendants (plains_of (drop l.value-index l.values)) ≡ below descendants (plains_of l.values)
