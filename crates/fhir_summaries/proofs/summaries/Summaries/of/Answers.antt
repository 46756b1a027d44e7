use Rattle.std.proofs.Common.{◌≡◌, ◌++◌, ◌∷◌, [], sym, ap, map, ◌∙◌, zero-add}
use Rattle.std.proofs.lemmas.List.{map-append}
use Rattle.std.proofs.lemmas.List.FromFn.{map-range_with_len_more}
use Rattle.fhir_summaries.specs.Summaries.{row_of}
use Rattle.fhir_summaries.proofs.summaries.Summaries.of.Goals as goal

pub loop-place-preserved : goal.loop-place-preserved
loop-place-preserved c =
    ap (map (λ row. row.items)) c.in_ok-push.ensures.items
    ∙ map-append (λ row. row.items) c.loop-place.rows.items (c.in_ok-row_of.field-0 ∷ [])
    ∙ (λ i. c.loop-place.invariant i ++ c.in_ok-row_of.ensures i ∷ [])
    ∙ sym (map-range_with_len_more (row_of c.args.table.now) 0 c.loop-place.place c.loop-place.place (zero-add c.loop-place.place))
