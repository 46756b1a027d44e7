use Rattle.std.proofs.Common.{◌≡◌, ◌++◌, flat_map, map, drop, codes, string_bytes}
use Rattle.fhir_bulk.specs.Rows.{judgement_json}
use Rattle.fhir_telling.specs.Views.{judgement_seen}
use Rattle.fhir_bulk.proofs.rows.push_more_json.Given as goal

abbrev pub invariant-loop-judgement : goal.invariant-loop-judgement
invariant-loop-judgement l =
    string_bytes l.into ++ flat_map (λ u. codes "," ++ u) (map (judgement_json l.number) (map judgement_seen (drop l.judgement-index l.judgements)))
    ≡ string_bytes l.fn.into ++ flat_map (λ u. codes "," ++ u) (map (judgement_json l.number) (map judgement_seen l.judgements))
