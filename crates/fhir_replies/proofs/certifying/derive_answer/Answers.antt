use Rattle.std.proofs.Common.{rules, ◌≡◌}
use Rattle.std.proofs.lemmas.Result.{IfOk-weaker}
use Rattle.fhir_commands.specs.Replies.{derive_seen}
use Rattle.fhir_derive_check.specs.declared.fault.DeriveFault.TheVariants.{Missing, Unusable}
use Rattle.fhir_derive_check.specs.declared.outcome.Outcome.TheVariants.{Derives, NoCertificate}
use Rattle.fhir_replies.proofs.Told.{derives_so, fails_so, missing_so, unusable_so}
use Rattle.fhir_replies.proofs.certifying.derive_answer.Goals as goal

pub returns-in-Ok-Derives : goal.returns-in-Ok-Derives
returns-in-Ok-Derives c =
    let found = c.in-Ok-Derives in
    let is : found.field-0 ≡ Derives found.certificate = search rules in
    IfOk-weaker c.derived_answer.result _ _
    (λ a told.
    derives_so c.args.schema.now c.args.derived.now c.args.base.now found.field-0 found.certificate (derive_seen a) is found.ensures.reached found.ensures.right told)
    c.derived_answer.ensures

pub returns-in-Ok-NoCertificate : goal.returns-in-Ok-NoCertificate
returns-in-Ok-NoCertificate c =
    let found = c.in-Ok-NoCertificate in
    let is : found.field-0 ≡ NoCertificate found.pair found.rule = search rules in
    IfOk-weaker c.refuted_answer.result _ _
    (λ a told.
    fails_so c.args.schema.now c.args.derived.now c.args.base.now found.field-0 found.pair found.rule (derive_seen a) is found.ensures.derives found.ensures.refused told)
    c.refuted_answer.ensures

pub returns-in-Err-Missing : goal.returns-in-Err-Missing
returns-in-Err-Missing c =
    let found = c.in-Err-Missing in
    let is : found.field-0 ≡ Missing found.field-0-0 = search rules in
    missing_so c.args.schema.now c.args.derived.now c.args.base.now found.field-0 found.field-0-0 is found.ensures.fault

pub returns-in-Err-Unusable : goal.returns-in-Err-Unusable
returns-in-Err-Unusable c =
    let found = c.in-Err-Unusable in
    let is : found.field-0 ≡ Unusable found.field-0-0 = search rules in
    unusable_so c.args.schema.now c.args.derived.now c.args.base.now found.field-0 found.field-0-0 is found.ensures.fault
