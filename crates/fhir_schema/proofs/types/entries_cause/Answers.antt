use Rattle.std.proofs.Common.{◌<◌, length, sym, ◌∙◌, arith}
use Rattle.std.specs.Option.{option_map}
use Rattle.fhir_elements.specs.Causes.{reason_of}
use Rattle.fhir_elements.specs.declared.reason.Reason.TheVariants.{UnusableType}
use Rattle.fhir_schema.specs.Settling.{entry_is_usable}
use Rattle.fhir_schema.specs.Blaming.{reasons_of}
use Rattle.fhir_schema.proofs.Blamed.{some_reason, no_cause, unless_all, all_on}
use Rattle.fhir_schema.proofs.types.entries_cause.Goals as goal

pub returns-then-is_some : goal.returns-then-is_some
returns-then-is_some c =
    let within : c.loop-place.place < length c.args.entries.now = omega arith in
    unless_all (entry_is_usable c.args.table.now (reasons_of c.args.blames.now)) c.args.entries.now c.loop-place.place c.index-entries-place.result UnusableType
    (option_map reason_of c.entry_cause-cause.result) within c.index-entries-place.is
    (some_reason c.entry_cause-cause.result (sym c.is_some.ensures ∙ c.if-is_some.true)) c.entry_cause-cause.ensures

pub loop-place-preserved : goal.loop-place-preserved
loop-place-preserved c =
    let within : c.loop-place.place < length c.args.entries.now = omega arith in
    all_on (entry_is_usable c.args.table.now (reasons_of c.args.blames.now)) c.args.entries.now c.loop-place.place c.index-entries-place.result UnusableType
    (option_map reason_of c.entry_cause-cause.result) within c.index-entries-place.is
    c.entry_cause-cause.ensures (no_cause c.entry_cause-cause.result (sym c.is_some.ensures ∙ c.if-is_some.false)) c.loop-place.invariant
