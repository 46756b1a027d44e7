use Rattle.std.proofs.Common.{◌≡◌, ◌⊎◌, ◌++◌, length, string_bytes, sym, ap, ◌∙◌, append-nil, inl, inr}
use Rattle.fhir_json.specs.Views.{tree_of}
use Rattle.fhir_telling.specs.Views.{note_seen}
use Rattle.fhir_bulk.specs.Rows.{row_if_told}
use Rattle.fhir_bulk.proofs.Zipped.{ended}
use Rattle.fhir_bulk.proofs.rows.push_issue_rows.Goals as goal

pub returns : goal.returns
returns c =
    let issues = c.loop-issue.issue-iterator.a.rest.now in
    let notes = c.loop-issue.issue-iterator.b.rest.now in
    let none : (length issues ≡ 0) ⊎ (length notes ≡ 0) = elim c.in-None.ensures.steps [
      | inl one ↦ inl one.1.0
      | inr other ↦ inr other.1.0
    ] in
    sym (append-nil (string_bytes c.loop-issue.into))
    ∙ ap (λ t. string_bytes c.loop-issue.into ++ t) (sym (ended tree_of note_seen (row_if_told c.args.heading.now c.args.number) issues notes none))
    ∙ c.loop-issue.invariant
