use Rattle.std.proofs.Common.{◌≤◌, length, drop}
use Rattle.fhir_nodes.specs.Tables.{FindsTypes}
use Rattle.fhir_nodes.proofs.table.types_of.Given as goal

abbrev pub invariant-loop-i : goal.invariant-loop-i
invariant-loop-i l = record { within : l.i ≤ length l.definitions; finds : FindsTypes l.index (drop l.i l.definitions) }

abbrev pub decreases-loop-i : goal.decreases-loop-i
decreases-loop-i l = l.i
