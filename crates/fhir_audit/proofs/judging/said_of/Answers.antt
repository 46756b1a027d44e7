use Rattle.std.proofs.Common.{rules, ◌≡◌}
use Rattle.std.specs.Option.{option_map}
use Rattle.std.proofs.lemmas.Result.{IfOk-weaker}
use Rattle.fhir_derive_check.specs.declared.fault.DeriveFault.TheVariants.{Missing, Unusable}
use Rattle.fhir_derive_check.specs.declared.outcome.Outcome.TheVariants.{Derives, NoCertificate}
use Rattle.fhir_audit.specs.Views.{verdict_seen}
use Rattle.fhir_audit.proofs.Said.{narrows_so, fails_so, missing_so, unusable_so}
use Rattle.fhir_audit.proofs.judging.said_of.Goals as goal

pub returns-in-Ok-Derives : goal.returns-in-Ok-Derives
returns-in-Ok-Derives c =
    let found = c.in-Ok-Derives in
    let is : found.field-0 ≡ Derives found.certificate = search rules in
    narrows_so (option_map (λ x. x.now) c.args.given) c.args.schema.now c.args.url.now c.args.base.now found.field-0 found.certificate is
    found.ensures.derives found.ensures.reached found.ensures.right found.ensures.includes

pub returns-in-Ok-NoCertificate : goal.returns-in-Ok-NoCertificate
returns-in-Ok-NoCertificate c =
    let found = c.in-Ok-NoCertificate in
    let is : found.field-0 ≡ NoCertificate found.pair found.rule = search rules in
    IfOk-weaker c.refuted.result _ _
    (λ v shown.
    fails_so (option_map (λ x. x.now) c.args.given) c.args.schema.now c.args.url.now c.args.base.now found.field-0 found.pair found.rule
    (verdict_seen v) is found.ensures.derives found.ensures.blamed shown)
    c.refuted.ensures

pub returns-in-Err-Missing : goal.returns-in-Err-Missing
returns-in-Err-Missing c =
    let found = c.in-Err-Missing in
    let is : found.field-0 ≡ Missing found._side = search rules in (
      found._side,
      missing_so (option_map (λ x. x.now) c.args.given) c.args.schema.now c.args.url.now c.args.base.now found.field-0 found._side is found.ensures.fault,
    )

pub returns-in-Err-Unusable : goal.returns-in-Err-Unusable
returns-in-Err-Unusable c =
    let found = c.in-Err-Unusable in
    let is : found.field-0 ≡ Unusable found.side = search rules in
    rw is
    (unusable_so (option_map (λ x. x.now) c.args.given) c.args.schema.now c.args.url.now c.args.base.now found.field-0 found.side is found.ensures.fault)
