use Rattle.std.proofs.Common.{◌≡◌, drop}
use Rattle.fhir_fp_values.specs.Views.{plain_of, plains_of}
use Rattle.fhir_fp_values.specs.Equality.{has}
use Rattle.fhir_fp_values.proofs.sets.is_among_many.Given as goal

abbrev pub invariant-loop-other : goal.invariant-loop-other
invariant-loop-other l = has (plains_of (drop l.other-index l.seen)) (plain_of l.value) ≡ has (plains_of l.seen) (plain_of l.value)
