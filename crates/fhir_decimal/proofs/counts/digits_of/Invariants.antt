use Rattle.std.proofs.Common.{◌≡◌, ◌+◌, ◌-◌, ◌*◌, ◌^◌, ◌<◌, ◌≤◌, length, drop}
use Rattle.fhir_decimal.specs.Value.{number_of}
use Rattle.fhir_decimal.proofs.counts.digits_of.Given as goal

abbrev pub invariant-loop-place : goal.invariant-loop-place
invariant-loop-place l = record {
  within : l.place ≤ 20;
  long : length l.digits ≡ 20;
  left : l.rest < 10 ^ l.place;
  so_far : number_of (drop l.place l.digits) + l.rest * 10 ^ (20 - l.place) ≡ l.number;
}

abbrev pub decreases-loop-place : goal.decreases-loop-place
decreases-loop-place l = l.place
