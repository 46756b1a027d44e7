use Rattle.std.proofs.Common.{rules, ◌≡◌, codes}
use Rattle.std.proofs.lemmas.Result.{IfOk-weaker}
use Rattle.fhir_derive_check.specs.declared.fault.DeriveFault.TheVariants.{Missing, Unusable}
use Rattle.fhir_derive_check.specs.declared.outcome.Outcome.TheVariants.{Derives, NoCertificate}
use Rattle.fhir_answers.specs.Replying.{reply_seen, on_side}
use Rattle.fhir_answers.proofs.Derived.{derives_so, promised_so, fails_so, not_zero, missing_so, unusable_so, told_not_zero}
use Rattle.fhir_answers.proofs.derive_reply.derive_between.Goals as goal

pub returns-in-Ok-Derives-clause-told : goal.returns-in-Ok-Derives-clause-told
returns-in-Ok-Derives-clause-told c =
    let found = c.in-Ok-Derives in
    let is : found.field-0 ≡ Derives found.certificate = search rules in
    IfOk-weaker c.derived_reply.result _ _
    (λ r told.
    derives_so c.args.schema.now c.args.derived.now c.args.base.now found.field-0 found.certificate (reply_seen r) is found.ensures.reached found.ensures.right told)
    c.derived_reply.ensures

pub returns-in-Ok-Derives-clause-promised : goal.returns-in-Ok-Derives-clause-promised
returns-in-Ok-Derives-clause-promised c =
    let found = c.in-Ok-Derives in
    let is : found.field-0 ≡ Derives found.certificate = search rules in
    IfOk-weaker c.derived_reply.result _ _
    (λ r told zero.
    promised_so c.args.schema.now c.args.derived.now c.args.base.now found.field-0 found.certificate is found.ensures.reached found.ensures.right found.ensures.includes)
    c.derived_reply.ensures

pub returns-in-Ok-NoCertificate-clause-told : goal.returns-in-Ok-NoCertificate-clause-told
returns-in-Ok-NoCertificate-clause-told c =
    let found = c.in-Ok-NoCertificate in
    let is : found.field-0 ≡ NoCertificate found.pair found.rule = search rules in
    IfOk-weaker c.refuted_reply.result _ _
    (λ r told.
    fails_so c.args.schema.now c.args.derived.now c.args.base.now found.field-0 found.pair found.rule (reply_seen r) is found.ensures.derives found.ensures.refused told)
    c.refuted_reply.ensures

pub returns-in-Ok-NoCertificate-clause-promised : goal.returns-in-Ok-NoCertificate-clause-promised
returns-in-Ok-NoCertificate-clause-promised c =
    IfOk-weaker c.refuted_reply.result _ _ (λ r told zero. not_zero (reply_seen r) _ _ told zero) c.refuted_reply.ensures

pub returns-in-Err-Missing-clause-told : goal.returns-in-Err-Missing-clause-told
returns-in-Err-Missing-clause-told c =
    let found = c.in-Err-Missing in
    let is : found.field-0 ≡ Missing found.side = search rules in
    IfOk-weaker c.side_reply.result _ _
    (λ r told. missing_so c.args.schema.now c.args.derived.now c.args.base.now found.field-0 found.side (reply_seen r) is found.ensures.fault told)
    c.side_reply.ensures

pub returns-in-Err-Missing-clause-promised : goal.returns-in-Err-Missing-clause-promised
returns-in-Err-Missing-clause-promised c =
    IfOk-weaker c.side_reply.result _ _ (λ r told zero. told_not_zero (reply_seen r) (codes "D1") (on_side c.in-Err-Missing.side c.args.derived.now c.args.base.now) _ told zero) c.side_reply.ensures

pub returns-in-Err-Unusable-clause-told : goal.returns-in-Err-Unusable-clause-told
returns-in-Err-Unusable-clause-told c =
    let found = c.in-Err-Unusable in
    let is : found.field-0 ≡ Unusable found.side = search rules in
    IfOk-weaker c.side_reply-in-Err-Unusable.result _ _
    (λ r told. unusable_so c.args.schema.now c.args.derived.now c.args.base.now found.field-0 found.side (reply_seen r) is found.ensures.fault told)
    c.side_reply-in-Err-Unusable.ensures

pub returns-in-Err-Unusable-clause-promised : goal.returns-in-Err-Unusable-clause-promised
returns-in-Err-Unusable-clause-promised c =
    IfOk-weaker c.side_reply-in-Err-Unusable.result _ _ (λ r told zero. told_not_zero (reply_seen r) (codes "D2") (on_side c.in-Err-Unusable.side c.args.derived.now c.args.base.now) _ told zero) c.side_reply-in-Err-Unusable.ensures
