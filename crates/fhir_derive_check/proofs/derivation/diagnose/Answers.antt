use Rattle.std.proofs.lemmas.Result.{IfOk-weaker}
use Rattle.fhir_derive_check.specs.declared.blaming.Named.TheVariants.{ToBlame}
use Rattle.fhir_derive_check.proofs.Certified.{derives, reached, right, includes, blamed}
use Rattle.fhir_derive_check.proofs.derivation.diagnose.Goals as goal

pub returns-clause-derives : goal.returns-clause-derives
returns-clause-derives c =
    IfOk-weaker c.outcome_between.result _ _ (λ o out. derives c.args.schema.now c.args.derived.now c.args.base.now ToBlame o out) c.outcome_between.ensures.outcome

pub returns-clause-reached : goal.returns-clause-reached
returns-clause-reached c =
    IfOk-weaker c.outcome_between.result _ _ (λ o out. reached c.args.schema.now c.args.derived.now c.args.base.now ToBlame o out) c.outcome_between.ensures.outcome

pub returns-clause-right : goal.returns-clause-right
returns-clause-right c =
    IfOk-weaker c.outcome_between.result _ _ (λ o out. right c.args.schema.now c.args.derived.now c.args.base.now ToBlame o out) c.outcome_between.ensures.outcome

pub returns-clause-includes : goal.returns-clause-includes
returns-clause-includes c =
    IfOk-weaker c.outcome_between.result _ _ (λ o out. includes c.args.schema.now c.args.derived.now c.args.base.now ToBlame o out (c.certificates_include.ensures c.args.schema.now)) c.outcome_between.ensures.outcome

pub returns-clause-blamed : goal.returns-clause-blamed
returns-clause-blamed c =
    IfOk-weaker c.outcome_between.result _ _ (λ o out. blamed c.args.schema.now c.args.derived.now c.args.base.now o out) c.outcome_between.ensures.outcome
