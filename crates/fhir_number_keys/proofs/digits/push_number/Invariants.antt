use Rattle.std.proofs.Common.{◌≡◌, ◌+◌, ◌*◌, ◌^◌, length}
use Rattle.fhir_number_keys.specs.Digits.{number_in, AreDigits}
use Rattle.fhir_number_keys.proofs.digits.push_number.Given as goal

abbrev pub invariant-loop-left : goal.invariant-loop-left
invariant-loop-left l = record {
  digits : AreDigits l.fn.digits.items → AreDigits l.digits.items;
  number : number_in l.digits.items + l.left * 10 ^ length l.digits.items ≡ number_in l.fn.digits.items + l.number * 10 ^ length l.fn.digits.items;
}

abbrev pub decreases-loop-left : goal.decreases-loop-left
decreases-loop-left l = l.left
