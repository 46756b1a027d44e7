use Rattle.std.proofs.Common.{◌≡◌, ◌++◌, drop}
use Rattle.fhir_fp_values.specs.Views.{plains_of}
use Rattle.fhir_fp_eval.specs.Meaning.{of_types}
use Rattle.fhir_fp_eval.proofs.words.of_types.Given as goal

abbrev pub invariant-loop-value : goal.invariant-loop-value
invariant-loop-value l =
    plains_of l.found.items ++ of_types l.schema l.name (plains_of (drop l.value-index l.values)) ≡ of_types l.schema l.name (plains_of l.values)
