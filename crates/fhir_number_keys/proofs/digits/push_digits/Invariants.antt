use Rattle.std.proofs.Common.{◌≡◌, ◌++◌, drop}
use Rattle.std.specs.Prelude.{string_bytes}
use Rattle.fhir_number_keys.specs.Digits.{written}
use Rattle.fhir_number_keys.proofs.digits.push_digits.Given as goal

abbrev pub invariant-loop-digit : goal.invariant-loop-digit
invariant-loop-digit l = string_bytes l.fn.key ++ written l.digits ≡ string_bytes l.key ++ written (drop l.digit-index l.digits)
