use Rattle.std.proofs.Common.{◌≡◌}
use Rattle.fhir_decimal.specs.declared.rows.TheConstants.{FAR}
use Rattle.fhir_decimal.specs.Rows.{digits_in, digit_from, signed_apart}
use Rattle.fhir_decimal.proofs.Digits.{prefix}
use Rattle.fhir_decimal.proofs.rows.rows_apart.Given as goal

abbrev pub invariant-loop-place : goal.invariant-loop-place
invariant-loop-place l =
    l.apart
    ≡ signed_apart FAR l.left.negative (prefix (digit_from l.left_start (digits_in l.left)) l.place) l.right.negative
    (prefix (digit_from l.right_start (digits_in l.right)) l.place)
