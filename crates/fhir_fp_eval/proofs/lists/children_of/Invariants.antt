use Rattle.std.proofs.Common.{◌≡◌, ◌++◌, drop}
use Rattle.fhir_fp_values.specs.Views.{plains_of}
use Rattle.fhir_fp_eval.specs.Meaning.{children_of}
use Rattle.fhir_fp_eval.proofs.lists.children_of.Given as goal

abbrev pub invariant-loop-value : goal.invariant-loop-value
invariant-loop-value l =
    plains_of l.out.items ++ children_of l.name (plains_of (drop l.value-index l.values)) ≡ children_of l.name (plains_of l.values)
