use Rattle.std.proofs.Common.{◌≤◌, length, drop}
use Rattle.fhir_definition.specs.Views.{FindsIds}
use Rattle.fhir_definition.proofs.by_id.ids_of.Given as goal

abbrev pub invariant-loop-i : goal.invariant-loop-i
invariant-loop-i l = record { within : l.i ≤ length l.elements; finds : FindsIds l.index l.i (drop l.i l.elements) }

abbrev pub decreases-loop-i : goal.decreases-loop-i
decreases-loop-i l = l.i
