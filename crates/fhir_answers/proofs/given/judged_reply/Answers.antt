use Rattle.std.proofs.Common.{string_bytes, sym, ap, ◌∙◌}
use Rattle.fhir_json.specs.Views.{tree_of}
use Rattle.fhir_answers.specs.Replying.{status_of, answer_noted}
use Rattle.fhir_answers.specs.Status.{code_of}
use Rattle.fhir_answers.proofs.Judging.{given_by}
use Rattle.fhir_answers.proofs.given.judged_reply.Goals as goal

pub returns-clause-promised : goal.returns-clause-promised
returns-clause-promised c zero =
    let notes = string_bytes c.args.given.notes in
    let out = c.in_ok-out.out.items in
    given_by c.args.schema.now c.args.given.vouching c.args.profile.now c.args.bytes.now notes out c.in_ok-standing.standing (tree_of c.in_ok-standing.outcome)
    c.in_ok-standing.ensures
    (ap (λ status. status_of (answer_noted notes (code_of status) out)) (sym c.standing_status.ensures) ∙ ap status_of (sym c.answer_noted.ensures) ∙ zero)
