use Rattle.std.proofs.Common.{◌≡◌, ℕ, ◌-◌, ap, ap₂, ◌∙◌, arith}
use Rattle.fhir_decimal.specs.declared.rows.TheConstants.{FAR}
use Rattle.fhir_decimal.specs.Rows.{digits_in, digit_from, signed_apart}
use Rattle.fhir_decimal.proofs.Digits.{prefix, apart_level, apart_near, place_step, row_done}
use Rattle.fhir_decimal.proofs.rows.rows_apart.Goals as goal

pub loop-place-init : goal.loop-place-init
loop-place-init c = apart_level FAR c.args.left.now.negative c.args.right.now.negative

pub next_apart-apart-requires-clause-near : goal.next_apart-apart-requires-clause-near
next_apart-apart-requires-clause-near c = rw c.loop-place.invariant (apart_near FAR _ _)

pub loop-place-preserved : goal.loop-place-preserved
loop-place-preserved c =
    let left = c.args.left.now in
    let right = c.args.right.now in
    place_step FAR left.negative right.negative
    (digit_from (c.max-places.result - c.places_in-3.result) (digits_in left))
    (digit_from (c.max-places.result - c.places_in-4.result) (digits_in right))
    c.loop-place.place c.loop-place.apart c.tilt-raise.result c.tilt-lower.result c.digit_from.result c.digit_from-in-loop-place.result
    c.next_apart-apart.result
    (omega arith) c.loop-place.invariant c.digit_from.ensures.value c.digit_from-in-loop-place.ensures.value
    c.digit_from.ensures.small c.digit_from-in-loop-place.ensures.small
    c.tilt-raise.ensures.value c.tilt-lower.ensures.value c.next_apart-apart.ensures

pub returns-clause-value : goal.returns-clause-value
returns-clause-value c =
    let left = c.args.left.now in
    let right = c.args.right.now in
    let n = c.max-places.result in
    let ended : c.loop-place.place ≡ n = omega arith in
    let mine = row_done left (n - c.places_in-3.result) n (omega arith) (ap (λ (k : ℕ). n - k) c.places_in-3.ensures.value) in
    let other = row_done right (n - c.places_in-4.result) n (omega arith) (ap (λ (k : ℕ). n - k) c.places_in-4.ensures.value) in
    let digits = digit_from (n - c.places_in-3.result) (digits_in left) in
    let other_digits = digit_from (n - c.places_in-4.result) (digits_in right) in
    c.loop-place.invariant
    ∙ ap (λ (k : ℕ). signed_apart FAR left.negative (prefix digits k) right.negative (prefix other_digits k)) ended
    ∙ ap₂ (λ (v w : ℕ). signed_apart FAR left.negative v right.negative w) mine other

pub returns-clause-near : goal.returns-clause-near
returns-clause-near c = rw c.loop-place.invariant (apart_near FAR _ _)
