use Rattle.std.proofs.Common.{◌≡◌, ◌&&◌, length}
use Rattle.std.specs.Prelude.{is_some}
use denote.Text.{Utf8}
use denote.Shadow.{shadow}
use Rattle.fhir_json.specs.Bytes.{is_empty}
use Rattle.fhir_certificate.specs.Format.{numbering}
use Rattle.fhir_certificate.specs.Reading.{lines_of, pair_lines, pairs_at}
use Rattle.fhir_certificate.specs.Lines.{are_known}
use Rattle.fhir_certificate.specs.Flaws.{any_of_format}
use Rattle.fhir_certificate.proofs.flaw.FlawList.take_pairs.Given as goal

abbrev pub invariant-loop-pair : goal.invariant-loop-pair
invariant-loop-pair l =
    shadow (Utf8 l.rest)
    × (is_some (pairs_at (numbering l.definitions) l.rest) ≡ is_some (pairs_at (numbering l.definitions) l.text))
    × (any_of_format l.self.found.items ≡ any_of_format l.fn.self.found.items)
    × ((is_empty l.self.found.items && are_known l.schema (pair_lines (numbering l.definitions) (lines_of l.rest)))
    ≡ (is_empty l.fn.self.found.items && are_known l.schema (pair_lines (numbering l.definitions) (lines_of l.text))))

abbrev pub decreases-loop-pair : goal.decreases-loop-pair
decreases-loop-pair l = length l.rest
