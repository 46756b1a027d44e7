use Rattle.std.proofs.Common.{◌≡◌, ◌++◌, drop, string_bytes}
use Rattle.fhir_gather.specs.Views.{all_dropped}
use Rattle.fhir_gather_lines.specs.GatherLines.{dropped_rows}
use Rattle.fhir_gather_lines.proofs.dropping.push_each_dropped.Given as goal

abbrev pub invariant-loop-one : goal.invariant-loop-one
invariant-loop-one l =
    string_bytes l.into ++ dropped_rows l.detail (all_dropped (drop l.one-index l.dropped))
    ≡ string_bytes l.fn.into ++ dropped_rows l.detail (all_dropped l.dropped)
