use Rattle.std.proofs.Common.{◌≡◌, drop, []}
use Rattle.fhir_fp_values.specs.Views.{plains_of}
use Rattle.fhir_fp_values.specs.Sets.{shared}
use Rattle.fhir_fp_values.specs.Tables.{Holds}
use Rattle.fhir_fp_values.proofs.sets.intersection_with_many.Given as goal

abbrev pub invariant-loop-value : goal.invariant-loop-value
invariant-loop-value l =
    Holds l.table l.seen.items
    × (shared (plains_of l.right) (plains_of l.seen.items) (plains_of (drop l.value-index l.left)) ≡ shared (plains_of l.right) [] (plains_of l.left))
