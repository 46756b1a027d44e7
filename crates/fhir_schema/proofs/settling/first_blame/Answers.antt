use Rattle.std.proofs.Common.{sym, ◌∙◌}
use Rattle.fhir_elements.specs.declared.reason.Reason.TheVariants.{UnusableType, NoTree, MissingContent}
use Rattle.fhir_elements.specs.Causes.{blamed_reason}
use Rattle.fhir_schema.specs.Settling.{types_are_usable, targets_are_usable, has_tree, lasting_tests}
use Rattle.fhir_schema.specs.Blaming.{reasons_of}
use Rattle.fhir_schema.proofs.Blamed.{some_blame, holds, no_fault, of_tree, of_targets, of_rest}
use Rattle.fhir_schema.proofs.settling.first_blame.Goals as goal

pub returns-then-is_some-3-clause-reason : goal.returns-then-is_some-3-clause-reason
returns-then-is_some-3-clause-reason c =
    let ds = c.args.table.now in
    let d = c.args.definition.now in
    let reasons = reasons_of c.args.blames.now in
    let free = no_fault c.blame-own.result d.fault c.blame-own.ensures.reason (sym c.is_some.ensures ∙ c.if-is_some.false) in
    let one = holds (types_are_usable ds reasons d) UnusableType c.types_blame-of_types.result c.types_blame-of_types.ensures.reason
    (sym c.is_some-2.ensures ∙ c.if-is_some-2.false) in
    of_tree d.fault (types_are_usable ds reasons d) (has_tree ds d) (targets_are_usable ds reasons d) (lasting_tests ds d)
    (blamed_reason c.tree_blame-of_tree.result) free one c.tree_blame-of_tree.ensures.reason
    (some_blame c.tree_blame-of_tree.result (sym c.is_some-3.ensures ∙ c.if-is_some-3.true))

pub returns-then-is_some-4-clause-reason : goal.returns-then-is_some-4-clause-reason
returns-then-is_some-4-clause-reason c =
    let ds = c.args.table.now in
    let d = c.args.definition.now in
    let reasons = reasons_of c.args.blames.now in
    let free = no_fault c.blame-own.result d.fault c.blame-own.ensures.reason (sym c.is_some.ensures ∙ c.if-is_some.false) in
    let one = holds (types_are_usable ds reasons d) UnusableType c.types_blame-of_types.result c.types_blame-of_types.ensures.reason
    (sym c.is_some-2.ensures ∙ c.if-is_some-2.false) in
    let two = holds (has_tree ds d) NoTree c.tree_blame-of_tree.result c.tree_blame-of_tree.ensures.reason (sym c.is_some-3.ensures ∙ c.if-is_some-3.false) in
    of_targets d.fault (types_are_usable ds reasons d) (has_tree ds d) (targets_are_usable ds reasons d) (lasting_tests ds d)
    (blamed_reason c.targets_blame-of_targets.result) free one two c.targets_blame-of_targets.ensures.reason
    (some_blame c.targets_blame-of_targets.result (sym c.is_some-4.ensures ∙ c.if-is_some-4.true))

pub returns-clause-reason : goal.returns-clause-reason
returns-clause-reason c =
    let ds = c.args.table.now in
    let d = c.args.definition.now in
    let reasons = reasons_of c.args.blames.now in
    let free = no_fault c.blame-own.result d.fault c.blame-own.ensures.reason (sym c.is_some.ensures ∙ c.if-is_some.false) in
    let one = holds (types_are_usable ds reasons d) UnusableType c.types_blame-of_types.result c.types_blame-of_types.ensures.reason
    (sym c.is_some-2.ensures ∙ c.if-is_some-2.false) in
    let two = holds (has_tree ds d) NoTree c.tree_blame-of_tree.result c.tree_blame-of_tree.ensures.reason (sym c.is_some-3.ensures ∙ c.if-is_some-3.false) in
    let three = holds (targets_are_usable ds reasons d) MissingContent c.targets_blame-of_targets.result c.targets_blame-of_targets.ensures.reason
    (sym c.is_some-4.ensures ∙ c.if-is_some-4.false) in
    of_rest d.fault (types_are_usable ds reasons d) (has_tree ds d) (targets_are_usable ds reasons d) (lasting_tests ds d)
    (blamed_reason c.last_blame.result) free one two three c.last_blame.ensures.reason
