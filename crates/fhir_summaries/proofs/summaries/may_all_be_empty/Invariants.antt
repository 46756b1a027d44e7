use Rattle.std.proofs.Common.{◌≡◌, drop}
use Rattle.std.specs.List.{list_all}
use Rattle.fhir_summaries.specs.Summaries.{may_be_empty}
use Rattle.fhir_summaries.proofs.summaries.may_all_be_empty.Given as goal

abbrev pub invariant-loop-slot : goal.invariant-loop-slot
invariant-loop-slot l =
    list_all (may_be_empty l.table l.node) (drop l.slot-index l.slots) ≡ list_all (may_be_empty l.table l.node) l.slots
