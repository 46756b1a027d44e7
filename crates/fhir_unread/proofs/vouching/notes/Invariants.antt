use Rattle.std.proofs.Common.{◌≡◌, ◌++◌, map, drop, string_bytes}
use Rattle.std.specs.List.{flat_map}
use Rattle.fhir_vouching.specs.Given.{line_seen}
use Rattle.fhir_unread.specs.Given.{note, unknown_lines}
use Rattle.fhir_unread.proofs.vouching.notes.Given as goal

abbrev pub invariant-loop-line : goal.invariant-loop-line
invariant-loop-line l =
    string_bytes l.notes ++ flat_map (note l.name) (unknown_lines l.known (map line_seen (drop l.line-index l.lines)))
    ≡ flat_map (note l.name) (unknown_lines l.known (map line_seen l.lines))
