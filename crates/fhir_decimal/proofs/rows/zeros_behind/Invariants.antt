use Rattle.std.proofs.Common.{◌≡◌, ◌-◌, ◌*◌, ◌≤◌, ◌^◌, ◌++◌}
use Rattle.fhir_decimal.specs.Value.{number_of}
use Rattle.fhir_decimal.specs.Rows.{digit_in}
use Rattle.fhir_decimal.proofs.Digits.{prefix}
use Rattle.fhir_decimal.proofs.rows.zeros_behind.Given as goal

abbrev pub invariant-loop-zeros : goal.invariant-loop-zeros
invariant-loop-zeros l = record {
  within : l.zeros ≤ l.places;
  number : number_of (l.front ++ l.back) ≡ prefix (digit_in (l.front ++ l.back)) (l.places - l.zeros) * 10 ^ l.zeros;
}

abbrev pub decreases-loop-zeros : goal.decreases-loop-zeros
decreases-loop-zeros l = l.places - l.zeros
