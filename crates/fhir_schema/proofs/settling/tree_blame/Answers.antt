use Rattle.std.proofs.Common.{ap, sym, ◌∙◌}
use Rattle.fhir_elements.specs.Causes.{blamed_reason, reason_unless}
use Rattle.fhir_elements.specs.declared.reason.Reason.TheVariants.{NoTree}
use Rattle.fhir_definition.specs.Snapshot.{is_tree}
use Rattle.fhir_definition.specs.Definition.{has_snapshot}
use Rattle.fhir_forms.specs.Forms.{spells_apart}
use Rattle.fhir_schema.proofs.Blamed.{is_failing, some_blame, tree_false}
use Rattle.fhir_schema.proofs.settling.tree_blame.Goals as goal

pub returns-then-is_some-clause-reason : goal.returns-then-is_some-clause-reason
returns-then-is_some-clause-reason c =
    let d = c.args.definition.now in
    let isnt =
    is_failing (is_tree d.elements) NoTree (blamed_reason c.tree_blame-blame.result) c.tree_blame-blame.ensures.reason
    (some_blame c.tree_blame-blame.result (sym c.is_some.ensures ∙ c.if-is_some.true)) in
    c.tree_blame-blame.ensures.reason
    ∙ ap (λ b. reason_unless b NoTree) (isnt ∙ sym (tree_false (has_snapshot d) (is_tree d.elements) (spells_apart c.args.table.now d)
    (sym c.has_snapshot.ensures ∙ c.if-not-has_snapshot.false) isnt))
