use Rattle.std.proofs.Common.{◌≡◌, ◌+◌, ◌≤◌, length}
use Rattle.std.specs.Prelude.{is_some}
use denote.Text.{Utf8}
use denote.Shadow.{shadow}
use Rattle.fhir_certificate.specs.Format.{numbering}
use Rattle.fhir_certificate.specs.Reading.{lines_of, pair_lines, pairs_at}
use Rattle.fhir_certificate.specs.Lines.{LeadsTo}
use Rattle.fhir_certificate.proofs.lines.read_lines.Given as goal

abbrev pub invariant-loop-line : goal.invariant-loop-line
invariant-loop-line l =
    shadow (Utf8 l.rest)
    × (is_some (pairs_at (numbering l.definitions) l.rest) ≡ is_some (pairs_at (numbering l.definitions) l.text))
    × (l.so_far.count + length l.rest ≤ length l.text)
    × LeadsTo l.schema l.usable l.so_far (pair_lines (numbering l.definitions) (lines_of l.rest)) (pair_lines (numbering l.definitions) (lines_of l.text))

abbrev pub decreases-loop-line : goal.decreases-loop-line
decreases-loop-line l = length l.rest
