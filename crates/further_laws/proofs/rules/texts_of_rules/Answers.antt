use Rattle.further_laws.proofs.RuleTexts.{of_target, of_profile, of_binding, of_expression, of_constraint}
use Rattle.further_laws.proofs.rules.texts_of_rules.Goals as goal

pub returns-clause-targets : goal.returns-clause-targets
returns-clause-targets c = of_target

pub returns-clause-profiles : goal.returns-clause-profiles
returns-clause-profiles c = of_profile

pub returns-clause-bindings : goal.returns-clause-bindings
returns-clause-bindings c = of_binding

pub returns-clause-expressions : goal.returns-clause-expressions
returns-clause-expressions c = of_expression

pub returns-clause-constraints : goal.returns-clause-constraints
returns-clause-constraints c = of_constraint
