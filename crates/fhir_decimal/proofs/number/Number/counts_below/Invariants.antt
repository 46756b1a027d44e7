use Rattle.std.proofs.Common.{◌≡◌, ℕ, ◌-◌, ◌<◌, ◌≤◌, true, false}
use Rattle.std.specs.Ordering.{is_gt}
use Rattle.fhir_decimal.specs.Value.{value_order}
use Rattle.fhir_decimal.specs.Whole.{count}
use Rattle.fhir_decimal.specs.Numbers.{number_seen}
use Rattle.fhir_decimal.proofs.number.Number.counts_below.Given as goal

abbrev pub invariant-loop-low : goal.invariant-loop-low
invariant-loop-low l = record {
  between : l.low ≤ l.high;
  within : l.high ≤ l.bound;
  above : (n : ℕ) → n < l.low → is_gt (value_order (number_seen l.self) (count n)) ≡ true;
  others : (n : ℕ) → l.high ≤ n → n < l.bound → is_gt (value_order (number_seen l.self) (count n)) ≡ false;
}

abbrev pub decreases-loop-low : goal.decreases-loop-low
decreases-loop-low l = l.high - l.low
