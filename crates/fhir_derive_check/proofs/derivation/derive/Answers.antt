use Rattle.std.proofs.lemmas.Result.{IfOk-weaker}
use Rattle.fhir_derive_check.specs.declared.blaming.Named.TheVariants.{First}
use Rattle.fhir_derive_check.proofs.Certified.{derives, reached, once, right, includes, fit, refused}
use Rattle.fhir_derive_check.proofs.derivation.derive.Goals as goal

pub returns-clause-derives : goal.returns-clause-derives
returns-clause-derives c =
    IfOk-weaker c.outcome_between.result _ _ (λ o out. derives c.args.schema.now c.args.derived.now c.args.base.now First o out) c.outcome_between.ensures.outcome

pub returns-clause-reached : goal.returns-clause-reached
returns-clause-reached c =
    IfOk-weaker c.outcome_between.result _ _ (λ o out. reached c.args.schema.now c.args.derived.now c.args.base.now First o out) c.outcome_between.ensures.outcome

pub returns-clause-once : goal.returns-clause-once
returns-clause-once c =
    IfOk-weaker c.outcome_between.result _ _ (λ o out. once c.args.schema.now c.args.derived.now c.args.base.now First o out) c.outcome_between.ensures.outcome

pub returns-clause-right : goal.returns-clause-right
returns-clause-right c =
    IfOk-weaker c.outcome_between.result _ _ (λ o out. right c.args.schema.now c.args.derived.now c.args.base.now First o out) c.outcome_between.ensures.outcome

pub returns-clause-includes : goal.returns-clause-includes
returns-clause-includes c =
    IfOk-weaker c.outcome_between.result _ _ (λ o out. includes c.args.schema.now c.args.derived.now c.args.base.now First o out (c.certificates_include.ensures c.args.schema.now)) c.outcome_between.ensures.outcome

pub returns-clause-fits : goal.returns-clause-fits
returns-clause-fits c = λ d is.
    IfOk-weaker c.outcome_between.result _ _ (λ o out. fit c.args.schema.now c.args.derived.now c.args.base.now First o out c.asked_are_nodes.ensures d is) c.outcome_between.ensures.outcome

pub returns-clause-refused : goal.returns-clause-refused
returns-clause-refused c =
    IfOk-weaker c.outcome_between.result _ _ (λ o out. refused c.args.schema.now c.args.derived.now c.args.base.now o out) c.outcome_between.ensures.outcome
