use Rattle.std.proofs.Common.{◌≡◌, ◌++◌, List, [], ℕ, ap, ◌∙◌, arith}
use Rattle.std.proofs.lemmas.List.{append-nil}
use Rattle.fhir_decimal.specs.Value.{number_of}
use Rattle.fhir_decimal.specs.Rows.{number_in}
use Rattle.fhir_decimal.proofs.decimal.Decimal.exponent_row.Goals as goal

pub returns-clause-number : goal.returns-clause-number
unfolding number_in
returns-clause-number c =
    let digits = c.args.self.now.exponent.now in
    let none : c.default.result.now ≡ [] = c.default.ensures in
    let whole : number_of (digits ++ c.default.result.now) ≡ number_of digits =
    ap (λ (w : List ℕ). number_of (digits ++ w)) none ∙ ap number_of (append-nil digits) in
    omega arith
