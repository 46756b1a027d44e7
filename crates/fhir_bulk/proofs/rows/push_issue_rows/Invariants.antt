use Rattle.std.proofs.Common.{◌≡◌, ◌++◌, flat_map, map, zip, string_bytes}
use Rattle.fhir_json.specs.Views.{trees_of}
use Rattle.fhir_telling.specs.Views.{note_seen}
use Rattle.fhir_bulk.specs.Rows.{row_if_told}
use Rattle.fhir_bulk.proofs.rows.push_issue_rows.Given as goal

abbrev pub invariant-loop-issue : goal.invariant-loop-issue
invariant-loop-issue l =
    string_bytes l.into
    ++ flat_map (row_if_told l.heading l.number) (zip (trees_of l.issue-iterator.a.rest.now) (map note_seen l.issue-iterator.b.rest.now))
    ≡ string_bytes l.fn.into ++ flat_map (row_if_told l.heading l.number) (zip (trees_of l.issues) (map note_seen l.notes))
