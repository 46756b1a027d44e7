use Rattle.std.proofs.Common.{◌≡◌, ◌++◌, List, ℕ, ap₂, arith}
use Rattle.fhir_decimal.specs.Value.{number_of}
use Rattle.fhir_decimal.specs.Rows.{number_in}
use Rattle.fhir_decimal.proofs.rows.Row.zero.Goals as goal

pub returns-clause-number : goal.returns-clause-number
unfolding number_in
returns-clause-number c =
    let none : number_of (c.default.result.now ++ c.default-2.result.now) ≡ 0 =
    ap₂ (λ (v w : List ℕ). number_of (v ++ w)) c.default.ensures c.default-2.ensures in
    omega arith
