use Rattle.std.proofs.Common.{ap, ◌∙◌}
use Rattle.fhir_facets.specs.Unread.{meaning_of}
use Rattle.fhir_conformance.specs.Conformance.{entry_allows}
use Rattle.fhir_validator.specs.Layouts.{item_at}
use Rattle.fhir_validator.proofs.judging.Judge.entry.Goals as goal

pub returns-clause-exact : goal.returns-clause-exact
returns-clause-exact c = λ r.
    let schema = c.schema.ensures ∙ ap (λ l. l.schema) c.self.view_is in
    let given = c.given.ensures ∙ ap (λ l. l.given) c.self.view_is in
    let item = c.item.ensures ∙ ap (λ l. item_at l c.args.pair.item) c.self.view_is in
    c.judge_entry.ensures.exact r ∙ (λ i. entry_allows (schema i) (meaning_of (given i) r) (item i) c.args.entry.now)
