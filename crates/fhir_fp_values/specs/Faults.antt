-- Why an expression has no result.
use Rattle.std.specs.Prelude.{Bool, true, false}
use Rattle.fhir_fp_values.specs.declared.fault.EvalFault.{EvalFault}
use Rattle.fhir_fp_values.specs.declared.fault.EvalFault.TheVariants.{Several, Kind, NoMemory}

-- want of memory, which decides nothing
abbrev pub is_no_memory : EvalFault → Bool
is_no_memory Several = false
is_no_memory Kind = false
is_no_memory NoMemory = true
