use Rattle.std.proofs.Common.{◌≡◌, true, sym, ◌∙◌, ap}
use Rattle.fhir_json.specs.Fields.{is_count_text}
use Rattle.fhir_json.proofs.Counts.{unparsed}
use Rattle.fhir_json.proofs.fields.count_of.Goals as goal

pub returns-in_default-2-clause-count : goal.returns-in_default-2-clause-count
returns-in_default-2-clause-count c =
    let is : is_count_text c.args.text.now ≡ true =
    ap is_count_text (sym c.as_bytes.ensures.value) ∙ sym c.is_count_text.ensures ∙ c.if-not-is_count_text.false in
    unparsed _ c.args.text.now c.in_default.field-0 is (c.in_default.ensures.value.0)
