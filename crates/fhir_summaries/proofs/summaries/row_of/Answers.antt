use Rattle.std.proofs.Common.{◌≡◌, ℕ, ◌++◌, ◌∷◌, [], sym, ◌∙◌, zero-add}
use Rattle.std.proofs.lemmas.List.FromFn.{map-range_with_len_more}
use Rattle.fhir_summaries.specs.Summaries.{Summary, summary_of}
use Rattle.fhir_summaries.proofs.summaries.row_of.Goals as goal

pub loop-element-preserved : goal.loop-element-preserved
loop-element-preserved c =
    let f : ℕ → Summary = λ element. summary_of c.args.table.now (record { definition = c.args.place; element = element }) in
    c.in_ok-push.ensures.items ∙ (λ i. c.loop-element.invariant i ++ c.summary_of.ensures i ∷ [])
    ∙ sym (map-range_with_len_more f 0 c.loop-element.element c.loop-element.element (zero-add c.loop-element.element))
