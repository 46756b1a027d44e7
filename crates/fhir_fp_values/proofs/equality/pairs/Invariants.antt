use Rattle.std.proofs.Common.{◌≡◌, drop}
use Rattle.fhir_fp_values.specs.Views.{plains_of}
use Rattle.fhir_fp_values.specs.Equality.{kleene_and, pairs}
use Rattle.fhir_fp_values.proofs.equality.pairs.Given as goal

abbrev pub invariant-loop-value : goal.invariant-loop-value
invariant-loop-value l =
    kleene_and l.all (pairs (plains_of (drop l.value-index l.left)) (plains_of l.rest)) ≡ pairs (plains_of l.left) (plains_of l.right)
