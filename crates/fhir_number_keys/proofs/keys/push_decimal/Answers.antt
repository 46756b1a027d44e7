use Rattle.std.proofs.Common.{◌++◌, ap, arith, ◌∙◌}
use Rattle.std.proofs.lemmas.Result.{on_ok_weaker}
use Rattle.std.specs.Prelude.{string_bytes}
use Rattle.fhir_decimal.specs.Value.{number_of, value_of}
use Rattle.fhir_decimal.specs.Views.{parts_seen}
use Rattle.fhir_number_keys.specs.Digits.{digits_of}
use Rattle.fhir_number_keys.specs.Keys.{far, key_of}
use Rattle.fhir_number_keys.proofs.Exponents.{signed}
use Rattle.fhir_number_keys.proofs.keys.push_decimal.Goals as goal

pub returns : goal.returns
unfolding key_of value_of
returns c =
    let p = parts_seen c.args.decimal.now in
    let n = number_of (p.whole ++ p.fraction) in
    on_ok_weaker c.push_key.result
    (λ h. h
    ∙ ap (λ t. string_bytes c.args.key.now ++ t)
    (signed far p.negative n (value_of p).up (value_of p).down _ (c.deref.ensures.value ∙ c.in_ok-digits.ensures ∙ ap digits_of (omega arith)))) c.push_key.ensures
