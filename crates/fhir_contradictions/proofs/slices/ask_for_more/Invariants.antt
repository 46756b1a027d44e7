use Rattle.std.proofs.Common.{◌≡◌, drop, nat_le}
use Rattle.std.specs.List.{sum_by}
use Rattle.fhir_contradictions.specs.Contradictions.{slice_least}
use Rattle.fhir_contradictions.proofs.slices.ask_for_more.Given as goal

abbrev pub invariant-loop-slice : goal.invariant-loop-slice
invariant-loop-slice l =
    nat_le (sum_by (slice_least l.schema l.node) (drop l.slice-index l.slices)) l.left
    ≡ nat_le (sum_by (slice_least l.schema l.node) l.slices) l.most
