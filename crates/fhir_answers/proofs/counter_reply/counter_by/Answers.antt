use Rattle.std.proofs.Common.{rules, ◌≡◌, codes, string_bytes}
use Rattle.std.specs.Option.{option_map}
use Rattle.std.proofs.lemmas.Result.{IfOk-weaker}
use Rattle.fhir_derive_check.specs.declared.fault.DeriveFault.TheVariants.{Missing, Unusable}
use Rattle.fhir_derive_check.specs.declared.outcome.Outcome.TheVariants.{Derives, NoCertificate}
use Rattle.fhir_cert_check.specs.Views.{rule_name}
use Rattle.fhir_answers.specs.Replying.{reply_seen, on_side}
use Rattle.fhir_answers.proofs.Derived.{promised_so, told_not_zero}
use Rattle.fhir_answers.proofs.Countered.{derives_so, fails_so, missing_so, unusable_so, shown_not_zero}
use Rattle.fhir_answers.proofs.counter_reply.counter_by.Goals as goal

pub returns-in-Ok-Derives-clause-told : goal.returns-in-Ok-Derives-clause-told
returns-in-Ok-Derives-clause-told c =
    let found = c.in-Ok-Derives in
    let is : found.field-0 ≡ Derives found.field-0-0 = search rules in
    IfOk-weaker c.yes_reply.result _ _
    (λ r told.
    derives_so (option_map (λ x. x.now) c.args.given) c.args.schema.now (string_bytes c.args.notes) c.args.derived.now c.args.base.now
    found.field-0 found.field-0-0 (reply_seen r) is found.ensures.reached found.ensures.right told)
    c.yes_reply.ensures

pub returns-in-Ok-Derives-clause-promised : goal.returns-in-Ok-Derives-clause-promised
returns-in-Ok-Derives-clause-promised c =
    let found = c.in-Ok-Derives in
    let is : found.field-0 ≡ Derives found.field-0-0 = search rules in
    IfOk-weaker c.yes_reply.result _ _
    (λ r told zero.
    promised_so c.args.schema.now c.args.derived.now c.args.base.now found.field-0 found.field-0-0 is found.ensures.reached found.ensures.right found.ensures.includes)
    c.yes_reply.ensures

pub returns-in-Ok-NoCertificate-clause-told : goal.returns-in-Ok-NoCertificate-clause-told
returns-in-Ok-NoCertificate-clause-told c =
    let of = c.in-Ok-NoCertificate in
    let is : of.field-0 ≡ NoCertificate of.pair of.rule = search rules in
    let found = c.in_ok-found-in-Ok-NoCertificate in
    IfOk-weaker c.shown_reply.result _ _
    (λ r told.
    fails_so (option_map (λ x. x.now) c.args.given) c.args.schema.now (string_bytes c.args.notes) c.args.derived.now c.args.base.now
    of.field-0 of.pair of.rule (λ bytes. bytes.items) found.found (reply_seen r) is of.ensures.derives of.ensures.refused found.ensures.shown found.ensures.line told)
    c.shown_reply.ensures

pub returns-in-Ok-NoCertificate-clause-promised : goal.returns-in-Ok-NoCertificate-clause-promised
returns-in-Ok-NoCertificate-clause-promised c =
    IfOk-weaker c.shown_reply.result _ _
    (λ r told zero.
    shown_not_zero c.args.schema.now (string_bytes c.args.notes) c.in-Ok-NoCertificate.pair (rule_name c.in-Ok-NoCertificate.rule)
    (option_map (λ bytes. bytes.items) c.in_ok-found-in-Ok-NoCertificate.found) (reply_seen r) _ told zero)
    c.shown_reply.ensures

pub returns-in-Err-Missing-clause-told : goal.returns-in-Err-Missing-clause-told
returns-in-Err-Missing-clause-told c =
    let found = c.in-Err-Missing in
    let is : found.field-0 ≡ Missing found.side = search rules in
    IfOk-weaker c.side_reply.result _ _
    (λ r told.
    missing_so (option_map (λ x. x.now) c.args.given) c.args.schema.now (string_bytes c.args.notes) c.args.derived.now c.args.base.now
    found.field-0 found.side (reply_seen r) is found.ensures.fault told)
    c.side_reply.ensures

pub returns-in-Err-Missing-clause-promised : goal.returns-in-Err-Missing-clause-promised
returns-in-Err-Missing-clause-promised c =
    IfOk-weaker c.side_reply.result _ _ (λ r told zero. told_not_zero (reply_seen r) (codes "D1") (on_side c.in-Err-Missing.side c.args.derived.now c.args.base.now) _ told zero) c.side_reply.ensures

pub returns-in-Err-Unusable-clause-told : goal.returns-in-Err-Unusable-clause-told
returns-in-Err-Unusable-clause-told c =
    let found = c.in-Err-Unusable in
    let is : found.field-0 ≡ Unusable found.side = search rules in
    IfOk-weaker c.side_reply-in-Err-Unusable.result _ _
    (λ r told.
    unusable_so (option_map (λ x. x.now) c.args.given) c.args.schema.now (string_bytes c.args.notes) c.args.derived.now c.args.base.now
    found.field-0 found.side (reply_seen r) is found.ensures.fault told)
    c.side_reply-in-Err-Unusable.ensures

pub returns-in-Err-Unusable-clause-promised : goal.returns-in-Err-Unusable-clause-promised
returns-in-Err-Unusable-clause-promised c =
    IfOk-weaker c.side_reply-in-Err-Unusable.result _ _ (λ r told zero. told_not_zero (reply_seen r) (codes "D2") (on_side c.in-Err-Unusable.side c.args.derived.now c.args.base.now) _ told zero) c.side_reply-in-Err-Unusable.ensures
