use Rattle.std.proofs.Common.{◌≡◌, ◌++◌, length, map}
use denote.Text.{Utf8}
use denote.Shadow.{shadow}
use Rattle.fhir_certificate.specs.Reading.{lines_of, definition_lines, behind_lines}
use Rattle.fhir_certificate.specs.Views.{stated_seen}
use Rattle.fhir_certificate.specs.Stating.{AreLines}
use Rattle.fhir_certificate.proofs.stating.definition_lines.Given as goal

abbrev pub invariant-loop-lines : goal.invariant-loop-lines
invariant-loop-lines l =
    shadow (Utf8 l.rest)
    × AreLines l.lines (map stated_seen l.lines.stated.items)
    × (definition_lines 0 (lines_of l.text)
    ≡ map stated_seen l.lines.stated.items ++ definition_lines (length l.lines.stated.items) (lines_of l.rest))
    × (behind_lines (length l.lines.stated.items) l.text ≡ l.rest)

abbrev pub decreases-loop-lines : goal.decreases-loop-lines
decreases-loop-lines l = length l.rest
