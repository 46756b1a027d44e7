use Rattle.std.proofs.Common.{◌≡◌, ◌<◌, false, arith, sym, ◌∙◌}
use Rattle.fhir_decimal.specs.Numbers.{number_seen}
use Rattle.fhir_decimal.specs.Value.{is_same_value}
use Rattle.fhir_decimal.specs.Whole.{count}
use Rattle.fhir_decimal.proofs.Counting.{no_count}
use Rattle.fhir_decimal.proofs.number.Number.count_below.Goals as goal
use Rattle.fhir_decimal.proofs.number.Number.count_below.Goals.{else-place-bound-via-then-place-bound+else-eq_value, else-place-bound-via-else-place-bound}

pub returns-else-place-bound-clause-none : goal.returns-else-place-bound-clause-none
returns-else-place-bound-clause-none c =
    let v = number_seen c.args.self.now in
    let place = c.counts_below-place.result in
    let isnt : place < c.args.bound → is_same_value v (count place) ≡ false =
    λ room. elim c.else-place-bound.branch [
      | else-place-bound-via-then-place-bound+else-eq_value w ↦ sym w.eq_value.ensures ∙ w.if-eq_value.false
      | else-place-bound-via-else-place-bound w ↦ absurd (omega (arith, w.if-place-bound.false, room))
    ]
    in
    no_count v place c.args.bound c.counts_below-place.ensures.above c.counts_below-place.ensures.others isnt
