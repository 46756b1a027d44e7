use Rattle.std.proofs.Common.{◌≡◌, ◌++◌, drop, map, string_bytes}
use Rattle.fhir_archives.specs.Views.{note_seen}
use Rattle.fhir_gather_lines.specs.GatherLines.{note_rows}
use Rattle.fhir_gather_lines.proofs.noting.push_notes.Given as goal

abbrev pub invariant-loop-note : goal.invariant-loop-note
invariant-loop-note l =
    string_bytes l.into ++ note_rows (map note_seen (drop l.note-index l.notes)) ≡ string_bytes l.fn.into ++ note_rows (map note_seen l.notes)
