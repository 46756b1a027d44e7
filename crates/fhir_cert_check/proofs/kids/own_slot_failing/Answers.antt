use Rattle.std.proofs.Common.{◌∷◌, sym, ◌∙◌}
use Rattle.fhir_elements.specs.Tests.{first_of}
use Rattle.fhir_facets.specs.Cardinality.{cardinality_narrower}
use Rattle.fhir_cert_check.specs.Rule.{cardinality}
use Rattle.fhir_cert_check.specs.Rules.{elements_answer, entry_rules}
use Rattle.fhir_cert_check.specs.PairSet.{has_pair}
use Rattle.fhir_cert_check.proofs.First.{first_holds}
use Rattle.fhir_cert_check.proofs.kids.own_slot_failing.Goals as goal

pub returns : goal.returns
returns c =
    let s = c.args.schema.now in
    let has = has_pair c.args.pairs.now in
    let name = c.name-2.result.now in
    let derived = c.entry_of-derived.result in
    let base = c.entry_of-base.result in
    c.entry_failing.ensures
    ∙ sym (first_holds (elements_answer cardinality_narrower s derived base) (cardinality name) (entry_rules has s name derived base)
    (sym c.cardinality_answers.ensures ∙ c.if-not-cardinality_answers.false))
    ∙ (λ i. first_of ((elements_answer cardinality_narrower s (c.entry_of-derived.ensures i) (c.entry_of-base.ensures i), cardinality (c.name-2.ensures i))
    ∷ entry_rules has s (c.name-2.ensures i) (c.entry_of-derived.ensures i) (c.entry_of-base.ensures i)))
