use Rattle.std.proofs.Common.{◌≡◌, map}
use Rattle.std.specs.List.{range_with_len}
use Rattle.fhir_summaries.specs.Summaries.{summary_of}
use Rattle.fhir_summaries.proofs.summaries.row_of.Given as goal

abbrev pub invariant-loop-element : goal.invariant-loop-element
invariant-loop-element l =
    l.row.items ≡ map (λ element. summary_of l.table (record { definition = l.place; element = element })) (range_with_len 0 l.element)
