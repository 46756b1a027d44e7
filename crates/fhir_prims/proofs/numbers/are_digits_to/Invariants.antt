use Rattle.std.proofs.Common.{◌≡◌, ◌≤◌, drop}
use Rattle.fhir_prims.specs.Numbers.{are_digits_to}
use Rattle.fhir_prims.proofs.Bounded.{within}
use Rattle.fhir_prims.proofs.numbers.are_digits_to.Given as goal

abbrev pub invariant-loop-digit : goal.invariant-loop-digit
invariant-loop-digit l = (are_digits_to l.most l.digits ≡ within l.most l.number (drop l.digit-index l.digits)) × (l.number ≤ l.most)
