-- How many of what is dropped equal what is kept.
use Rattle.std.proofs.Common.{◌≡◌, ℕ, ◌+◌, List, [], ◌∷◌, cond, refl, sym, ap, ◌∙◌}
use Rattle.std.proofs.lemmas.List.Sums.{sum_by-cons}
use Rattle.std.specs.Prelude.{count_by}
use Rattle.fhir_gather.specs.declared.dropped.DroppedOne.{DroppedOne}
use Rattle.fhir_gather.specs.Views.{dropped_seen, all_dropped}

pub count_seen : (ds : List DroppedOne) → count_by (λ d. (dropped_seen d).is_equal) ds ≡ count_by (λ d. d.is_equal) (all_dropped ds)
count_seen [] = refl
count_seen (d ∷ ds) =
    sum_by-cons (λ x. cond (dropped_seen x).is_equal 1 0) d ds
    ∙ ap (λ (n : ℕ). cond (dropped_seen d).is_equal 1 0 + n) (count_seen ds)
    ∙ sym (sum_by-cons (λ x. cond x.is_equal 1 0) (dropped_seen d) (all_dropped ds))
