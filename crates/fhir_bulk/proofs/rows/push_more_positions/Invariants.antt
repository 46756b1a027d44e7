use Rattle.std.proofs.Common.{◌≡◌, ◌++◌, flat_map, map, drop, codes, string_bytes}
use Rattle.fhir_telling.specs.Views.{note_seen}
use Rattle.fhir_bulk.specs.Rows.{position_json}
use Rattle.fhir_bulk.proofs.rows.push_more_positions.Given as goal

abbrev pub invariant-loop-note : goal.invariant-loop-note
invariant-loop-note l =
    string_bytes l.into
    ++ flat_map (λ u. codes "," ++ u) (map (λ note. position_json l.number note.at) (map note_seen (drop l.note-index l.notes)))
    ≡ string_bytes l.fn.into ++ flat_map (λ u. codes "," ++ u) (map (λ note. position_json l.number note.at) (map note_seen l.notes))
