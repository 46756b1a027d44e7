use Rattle.std.proofs.Common.{◌≡◌, ℕ, ◌+◌, Some, subst, arith}
use Rattle.std.specs.List.{slice_get, Contains}
use Rattle.std.specs.Str.Lines.{lines}
use Rattle.fhir_json.specs.Reading.{text_behind_mark}
use Rattle.fhir_vouching.specs.Given.{given_lines}
use Rattle.fhir_lines.specs.Lines.{escaped}
use Rattle.fhir_unread.specs.Given.{unknown_lines}
use Rattle.fhir_unread.proofs.ReadLines.{line_told, told_of, noted}
use Rattle.fhir_unread.proofs.laws.lines_told.Goals as goal

pub returns-clause-unknown : goal.returns-clause-unknown
returns-clause-unknown c = λ texts bytes number.
    let ls = lines (text_behind_mark bytes) in (
      λ h.
          let w = line_told texts 1 (number + 1) ls h in
          let same : w.0 ≡ number = omega (arith, w.1) in
          (w.2, subst (λ (k : ℕ). slice_get ls k ≡ Some w.2) same w.3, w.4, w.5),
      λ w. subst (λ (m : ℕ). Contains (unknown_lines texts (given_lines bytes)) m) (omega arith) (told_of texts 1 number ls w.0 w.1 w.2 w.3),
    )

pub returns-clause-noted : goal.returns-clause-noted
returns-clause-noted c = λ name bytes texts number there. noted (escaped name) (unknown_lines texts (given_lines bytes)) number there
