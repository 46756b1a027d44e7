use Rattle.std.proofs.Common.{◌≡◌, map}
use Rattle.std.specs.List.{range_with_len}
use Rattle.fhir_summaries.specs.Summaries.{row_of}
use Rattle.fhir_summaries.proofs.summaries.Summaries.of.Given as goal

abbrev pub invariant-loop-place : goal.invariant-loop-place
invariant-loop-place l = map (λ row. row.items) l.rows.items ≡ map (row_of l.table) (range_with_len 0 l.place)
