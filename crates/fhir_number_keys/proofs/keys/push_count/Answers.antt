use Rattle.std.proofs.Common.{◌≡◌, ◌++◌, ap, ap₂, arith, ◌∙◌}
use Rattle.std.proofs.lemmas.Result.{on_ok_weaker}
use Rattle.std.specs.Prelude.{string_bytes}
use Rattle.fhir_decimal.specs.Text.{unsigned_parts}
use Rattle.fhir_decimal.specs.Value.{number_of}
use Rattle.fhir_decimal.specs.Views.{parts_seen}
use Rattle.fhir_number_keys.specs.Digits.{digits_of}
use Rattle.fhir_number_keys.specs.Keys.{far, key_of}
use Rattle.fhir_number_keys.proofs.Exponents.{counted}
use Rattle.fhir_number_keys.proofs.keys.push_count.Goals as goal

pub returns : goal.returns
unfolding key_of
returns c =
    let none : number_of (c.default.result.now ++ c.default-2.result.now) ≡ 0 = ap₂ (λ xs ys. number_of (xs ++ ys)) c.default.ensures c.default-2.ensures in
    on_ok_weaker c.push_key.result
    (λ h. h
    ∙ ap (λ t. string_bytes c.args.key.now ++ t)
    (counted far c.args.count (parts_seen c.of_digits-whole.result) _ (c.of_digits-whole.ensures ∙ ap₂ unsigned_parts c.default-3.ensures c.default-4.ensures)
    (c.deref.ensures.value ∙ c.in_ok-digits.ensures ∙ ap digits_of (omega (arith, none))))) c.push_key.ensures
