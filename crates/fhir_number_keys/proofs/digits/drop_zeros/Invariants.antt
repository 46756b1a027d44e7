use Rattle.std.proofs.Common.{◌≡◌, length}
use Rattle.fhir_number_keys.specs.Digits.{number_in, AreDigits}
use Rattle.fhir_number_keys.proofs.digits.drop_zeros.Given as goal

abbrev pub invariant-loop-last : goal.invariant-loop-last
invariant-loop-last l = record {
  digits : AreDigits l.digits.items;
  number : number_in l.digits.items ≡ number_in l.fn.digits.items;
}

abbrev pub decreases-loop-last : goal.decreases-loop-last
decreases-loop-last l = length l.digits.items
