use Rattle.fhir_json.specs.Views.{tree_of, trees_of}
use Rattle.std.proofs.Common.{codes, ap, ◌∙◌}
use Rattle.fhir_replies.proofs.Items.{issues_in}
use Rattle.fhir_replies.proofs.outcomes.outcome_of.Goals as goal

pub returns-clause-issues : goal.returns-clause-issues
returns-clause-issues c =
    issues_in (tree_of c.object.result) c.in_ok-vec.field-0.items c.member-kind.result c.member-issues.result _ (trees_of c.args.issues.items)
    c.object.ensures c.in_ok-vec.ensures.items c.member-kind.ensures (c.member-issues.ensures ∙ ap (λ t. (codes "issue", t)) c.array.ensures)
