use Rattle.std.proofs.Common.{◌≡◌, drop}
use Rattle.fhir_fp_values.specs.Views.{plains_of}
use Rattle.fhir_fp_values.specs.Sets.{joined}
use Rattle.fhir_fp_values.proofs.sets.join_few.Given as goal

abbrev pub invariant-loop-value : goal.invariant-loop-value
invariant-loop-value l =
    joined (plains_of l.seen.items) (plains_of (drop l.value-index l.values)) ≡ joined (plains_of l.initial.seen.items) (plains_of l.values)
