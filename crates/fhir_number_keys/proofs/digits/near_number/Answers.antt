use Rattle.std.proofs.Common.{◌≡◌, ◌+◌, ◌*◌, take, ap, arith, ◌∙◌, sym}
use Rattle.std.proofs.lemmas.List.{take_more}
use Rattle.fhir_decimal.specs.Value.{number_of}
use Rattle.fhir_number_keys.specs.Keys.{far}
use Rattle.fhir_number_keys.proofs.Sums.{text_with, near_step}
use Rattle.fhir_number_keys.proofs.digits.near_number.Goals as goal

pub loop-byte-preserved : goal.loop-byte-preserved
loop-byte-preserved c =
    let i = c.loop-byte.byte-index in
    let bs = c.args.text.now in
    let digit = c.digit_value.result in
    let more : number_of (take (i + 1) bs) ≡ number_of (take i bs) * 10 + digit =
    ap number_of (take_more bs i _ c.loop-byte-test.true) ∙ text_with (take i bs) _ ∙ ap (λ d. number_of (take i bs) * 10 + d) (sym c.digit_value.ensures.value) in
    near_step (number_of (take i bs)) digit c.loop-byte.number far _ _ c.loop-byte.invariant (omega arith) more c.min-number.ensures
