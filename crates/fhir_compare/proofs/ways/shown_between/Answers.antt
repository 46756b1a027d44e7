use Rattle.std.proofs.Common.{rules, ◌≡◌, false}
use Rattle.fhir_derive_check.specs.declared.fault.DeriveFault.TheVariants.{Missing, Unusable}
use Rattle.fhir_derive_check.specs.declared.outcome.Outcome.TheVariants.{Derives, NoCertificate}
use Rattle.fhir_derive_check.specs.Faults.{is_no_memory}
use Rattle.fhir_compare.proofs.Outcomes.{narrows_so, includes_so, none_so, blamed_so, refused_so}
use Rattle.fhir_compare.proofs.ways.shown_between.Goals as goal

pub returns-in-Ok-Derives : goal.returns-in-Ok-Derives
returns-in-Ok-Derives c =
    let found = c.in-Ok-Derives in
    let is : found.field-0 ≡ Derives found._certificate = search rules in
    let s = c.args.two.schema.now in (
      narrows_so s c.args.derived.now c.args.base.now found.field-0 found._certificate is found.ensures.derives,
      includes_so s c.args.derived.now c.args.base.now found.field-0 found._certificate is found.ensures.includes,
    )

pub fails-requires-clause-none : goal.fails-requires-clause-none
fails-requires-clause-none c =
    let found = c.in-Ok-NoCertificate in
    let is : found.field-0 ≡ NoCertificate found.pair found.rule = search rules in
    none_so c.args.two.schema.now c.args.derived.now c.args.base.now found.field-0 found.pair found.rule is found.ensures.derives

pub fails-requires-clause-blamed : goal.fails-requires-clause-blamed
fails-requires-clause-blamed c =
    let found = c.in-Ok-NoCertificate in
    let is : found.field-0 ≡ NoCertificate found.pair found.rule = search rules in
    blamed_so c.args.two.schema.now c.args.derived.now c.args.base.now found.field-0 found.pair found.rule is found.ensures.blamed

pub returns-in-Err-Missing : goal.returns-in-Err-Missing
returns-in-Err-Missing c =
    let found = c.in-Err-Missing in
    let is : found.field-0 ≡ Missing found._side = search rules in
    let other : is_no_memory found.field-0 ≡ false = rw is in
    refused_so c.args.two.schema.now c.args.derived.now c.args.base.now found.field-0 other found.ensures.fault

pub returns-in-Err-Unusable : goal.returns-in-Err-Unusable
returns-in-Err-Unusable c =
    let found = c.in-Err-Unusable in
    let is : found.field-0 ≡ Unusable found._side = search rules in
    let other : is_no_memory found.field-0 ≡ false = rw is in
    refused_so c.args.two.schema.now c.args.derived.now c.args.base.now found.field-0 other found.ensures.fault
