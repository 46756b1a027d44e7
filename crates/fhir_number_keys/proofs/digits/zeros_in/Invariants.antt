use Rattle.std.proofs.Common.{◌≡◌, ◌+◌, drop}
use Rattle.fhir_number_keys.specs.Digits.{zeros_in}
use Rattle.fhir_number_keys.proofs.digits.zeros_in.Given as goal

abbrev pub invariant-loop-digit : goal.invariant-loop-digit
invariant-loop-digit l = (l.zeros ≡ l.digit-index) × (l.zeros + zeros_in (drop l.digit-index l.digits) ≡ zeros_in l.digits)
