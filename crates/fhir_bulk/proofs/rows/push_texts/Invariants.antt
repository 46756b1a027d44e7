use Rattle.std.proofs.Common.{◌≡◌, ◌++◌, flat_map, map, drop, string_bytes}
use Rattle.fhir_bulk.specs.Rows.{judgement_rows}
use Rattle.fhir_telling.specs.Views.{judgement_seen}
use Rattle.fhir_bulk.proofs.rows.push_texts.Given as goal

abbrev pub invariant-loop-judgement : goal.invariant-loop-judgement
invariant-loop-judgement l =
    string_bytes l.into ++ flat_map (judgement_rows l.heading l.number) (map judgement_seen (drop l.judgement-index l.judgements))
    ≡ string_bytes l.fn.into ++ flat_map (judgement_rows l.heading l.number) (map judgement_seen l.judgements)
