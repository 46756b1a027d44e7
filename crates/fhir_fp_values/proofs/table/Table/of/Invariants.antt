use Rattle.std.proofs.Common.{take}
use Rattle.fhir_fp_values.specs.Tables.{Holds}
use Rattle.fhir_fp_values.proofs.table.Table.of.Given as goal

abbrev pub invariant-loop-value : goal.invariant-loop-value
invariant-loop-value l = Holds l.table (take l.value-index l.values)
