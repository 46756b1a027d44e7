use Rattle.std.proofs.Common.{◌≡◌, ◌+◌, ◌-◌, ◌++◌, length, min, arith}
use Rattle.std.proofs.lemmas.List.{length-append}
use Rattle.fhir_decimal.specs.Views.{parts_seen}
use Rattle.fhir_decimal.specs.declared.rows.TheConstants.{FAR}
use Rattle.fhir_decimal.proofs.Digits.{apart_same}
use Rattle.fhir_decimal.proofs.Order.{answer_right}
use Rattle.fhir_decimal.proofs.decimal.Decimal.cmp.Goals as goal

pub returns : goal.returns
returns c =
    let p = parts_seen c.args.self.now in
    let q = parts_seen c.args.other.now in
    let mine = length-append p.whole p.fraction in
    let other = length-append q.whole q.fraction in
    let left = c.mantissa_row.ensures in
    let right = c.mantissa_row-2.ensures in
    let up = c.exponent_row.ensures in
    let other_up = c.exponent_row-2.ensures in
    let zeros : c.min-zeros.result ≡ min ((c.rows_apart.result + length q.fraction) - (FAR + length p.fraction)) (length (q.whole ++ q.fraction)) =
    omega arith in
    let other_zeros : c.min-other_zeros.result ≡ min ((FAR + length p.fraction) - (c.rows_apart.result + length q.fraction)) (length (p.whole ++ p.fraction)) =
    omega arith in
    answer_right p q FAR c.rows_apart.result c.min-zeros.result c.min-other_zeros.result c.rows_apart-2.result c.cmp.result (omega arith)
    (apart_same FAR _ _ _ _ _ _ _ _ _ c.rows_apart.ensures.value up.sign up.number other_up.sign other_up.number)
    zeros other_zeros
    (omega arith) (omega arith)
    (apart_same FAR _ _ _ _ _ _ _ _ _ c.rows_apart-2.ensures.value left.sign left.number right.sign right.number)
    c.cmp.ensures
