use Rattle.std.proofs.Common.{◌≡◌, ◌+◌, ◌*◌, ◌^◌, ◌≤◌, length}
use Rattle.fhir_decimal.specs.Value.{number_of}
use Rattle.fhir_number_keys.specs.Digits.{number_in, AreDigits}
use Rattle.fhir_number_keys.proofs.digits.push_text.Given as goal

abbrev pub invariant-loop-rest : goal.invariant-loop-rest
invariant-loop-rest l = record {
  bound : l.left ≤ l.addend;
  len : length l.digits.items + length l.rest ≡ length l.fn.digits.items + length l.text;
  digits : AreDigits l.fn.digits.items → AreDigits l.digits.items;
  number :
      number_in l.digits.items + (number_of l.rest + l.left) * 10 ^ length l.digits.items
      ≡ number_in l.fn.digits.items + (number_of l.text + l.addend) * 10 ^ length l.fn.digits.items;
}

abbrev pub decreases-loop-rest : goal.decreases-loop-rest
decreases-loop-rest l = length l.rest
