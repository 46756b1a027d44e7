use Rattle.std.proofs.Common.{◌≡◌, ◌+◌, ◌-◌, ◌<◌, ◌≤◌, ◌++◌, length, ap, arith, ◌∙◌}
use Rattle.std.proofs.lemmas.Result.{on_ok_weaker}
use Rattle.std.specs.Prelude.{string_bytes}
use Rattle.fhir_decimal.specs.Value.{number_of, value_of}
use Rattle.fhir_decimal.specs.Views.{parts_seen}
use Rattle.fhir_number_keys.specs.Keys.{far}
use Rattle.fhir_number_keys.proofs.Exponents.{above, below, raising, lowering}
use Rattle.fhir_number_keys.proofs.keys.push_exponent.Goals as goal

pub returns-then-not-decimal : goal.returns-then-not-decimal
returns-then-not-decimal c =
    let p = parts_seen c.args.decimal.now in
    let r = raising p c.if-not-decimal.true in
    on_ok_weaker c.push_signed.result
    (λ h. h
    ∙ ap (λ t. string_bytes c.args.key.now ++ t)
    (above far (c.args.zeros + (value_of p).up) (value_of p).down _ (omega (arith, r.1)) (omega (arith, r.0, r.1)))) c.push_signed.ensures

pub returns-then-exponent-level : goal.returns-then-exponent-level
returns-then-exponent-level c =
    let p = parts_seen c.args.decimal.now in
    let l = lowering p c.if-not-decimal.false in
    let none : number_of c.default.result.now ≡ 0 = ap number_of c.default.ensures in
    let near : number_of p.exponent ≤ far + c.args.zeros - length p.fraction = omega (arith, c.near_number-exponent.ensures, c.if-exponent-level.true) in
    on_ok_weaker c.push_signed-then-exponent-level.result
    (λ h. h
    ∙ ap (λ t. string_bytes c.args.key.now ++ t)
    (above far (c.args.zeros + (value_of p).up) (value_of p).down _ (omega (arith, l.0, l.1, near))
    (omega (arith, none, l.0, l.1, near, c.near_number-exponent.ensures)))) c.push_signed-then-exponent-level.ensures

pub returns-else-exponent-level : goal.returns-else-exponent-level
returns-else-exponent-level c =
    let p = parts_seen c.args.decimal.now in
    let l = lowering p c.if-not-decimal.false in
    let over : far + c.args.zeros - length p.fraction < number_of p.exponent = omega (arith, c.near_number-exponent.ensures, c.if-exponent-level.false) in
    on_ok_weaker c.push_signed-else-exponent-level.result
    (λ h. h
    ∙ ap (λ t. string_bytes c.args.key.now ++ t)
    (below far (c.args.zeros + (value_of p).up) (value_of p).down _ (omega (arith, l.0, l.1, over)) (omega (arith, l.0, l.1)))) c.push_signed-else-exponent-level.ensures
