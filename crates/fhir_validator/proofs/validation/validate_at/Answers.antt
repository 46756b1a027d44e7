use Rattle.std.proofs.Common.{subst, inl, inr}
use Rattle.fhir_json.specs.Reading.{is_no_memory as is_fault_of_memory}
use Rattle.fhir_json.specs.Views.{tree_of}
use Rattle.fhir_instance.specs.Typing.{resource}
use Rattle.fhir_instance.specs.View.{item_of, is_no_memory}
use Rattle.fhir_validator.specs.Listing.{IsVerdictOn}
use Rattle.fhir_validator.proofs.Faults.{not_read, not_typed}
use Rattle.fhir_validator.proofs.validation.validate_at.Goals as goal

pub returns-in-Err-clause-refused : goal.returns-in-Err-clause-refused
returns-in-Err-clause-refused c =
    c.fault_of.ensures c.args.bytes.now (λ e t reads. not_read (is_fault_of_memory c.in-Err.fault) c.in-Err.fault t e (c.in-Err.ensures.only t reads))

pub returns-in-Ok-type_resource-clause-verdict : goal.returns-in-Ok-type_resource-clause-verdict
returns-in-Ok-type_resource-clause-verdict c = λ t reads.
    let v = c.in_ok-verdict_at-in-Ok-type_resource.field-0 in
    subst (λ t. IsVerdictOn c.args.schema.now c.args.given.now c.args.node t v) (c.one_tree.ensures c.args.bytes.now (tree_of c.in-Ok.json) t c.in-Ok.ensures.found reads)
    (inl (item_of c.in-Ok-type_resource.item, c.in-Ok-type_resource.ensures.item, c.in_ok-verdict_at-in-Ok-type_resource.ensures))

pub returns-clause-verdict : goal.returns-clause-verdict
returns-clause-verdict c = λ t reads.
    let v = c.in_ok-misfit_verdict-in-Err-type_resource.field-0 in
    let m = c.in-Err-type_resource.misfit in
    subst (λ t. IsVerdictOn c.args.schema.now c.args.given.now c.args.node t v) (c.one_tree.ensures c.args.bytes.now (tree_of c.in-Ok.json) t c.in-Ok.ensures.found reads)
    (inr (
      not_typed (is_no_memory m) (resource c.args.schema.now (tree_of c.in-Ok.json)) c.in_ok-misfit_verdict-in-Err-type_resource.ensures.decided c.in-Err-type_resource.ensures.misfit,
      c.in_ok-misfit_verdict-in-Err-type_resource.ensures.verdict,
    ))
