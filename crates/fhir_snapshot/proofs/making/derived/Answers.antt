use Rattle.std.proofs.Common.{rules, ◌≡◌, false, true, Some, is_none, List, ◌&&◌, sym, ap, ◌∙◌, subst}
use Rattle.std.specs.Prelude.{codes}
use Rattle.std.specs.Option.{option_copied}
use Rattle.fhir_json.specs.Views.{tree_of, tree_seen}
use Rattle.fhir_elements.specs.Element.{Element}
use Rattle.fhir_package.specs.declared.kind.Kind.TheVariants.{StructureDefinition}
use Rattle.fhir_package.specs.Definitions.{at_url}
use Rattle.fhir_definition.specs.Snapshot.{ids_differ}
use Rattle.fhir_inheritance.specs.Sources.{source_at}
use Rattle.fhir_snapshot.specs.Order.{IsLaid}
use Rattle.fhir_snapshot.specs.declared.fault.SnapNumber.TheVariants.{S3}
use Rattle.fhir_snapshot.specs.Faults.{number_of}
use Rattle.fhir_snapshot.specs.Refusing.{HasOwn}
use Rattle.fhir_snapshot.specs.Snapshots.{brings_elements, is_right, IsSnapshot, is_no_memory}
use Rattle.fhir_snapshot.specs.Knowing.{IsDraftFault}
use Rattle.fhir_snapshot.proofs.Snapshotting.{right_is, made_is, elements_are, if_ok, if_err_both}
use Rattle.fhir_snapshot.proofs.Refused.{draft_own, laid_own}
use Rattle.fhir_snapshot.proofs.making.derived.Goals as goal

pub returns-in-Some-clause-none : goal.returns-in-Some-clause-none
returns-in-Some-clause-none c = λ memory.
    let p = c.args.sources.now in
    let url = c.args.url.now in
    let t = tree_of c.in-Some-Some.definition.now in
    let s = c.in-Some-Some.source.now in
    let base = c.requires.under.0 in
    let rests = c.requires.under.1 in
    let at : at_url StructureDefinition url p ≡ Some t = sym c.definition.ensures ∙ ap tree_seen c.in-Some-Some.is-0 in
    let is : source_at p url ≡ Some s = sym c.get.ensures ∙ ap option_copied c.in-Some-Some.is-1 in
    let draft : IsDraftFault t c.elements.result.now (number_of c.in-Some.fault) = search rules in
    draft_own p url t at base rests c.elements.result.now (number_of c.in-Some.fault) (c.elements.ensures ∙ elements_are p url t at base rests s is) draft

pub returns-clause-made : goal.returns-clause-made
returns-clause-made c =
    let p = c.args.sources.now in
    let url = c.args.url.now in
    let t = tree_of c.in-Some-Some.definition.now in
    let s = c.in-Some-Some.source.now in
    let base = c.requires.under.0 in
    let rests = c.requires.under.1 in
    let under = c.args.under.now in
    let at : at_url StructureDefinition url p ≡ Some t = sym c.definition.ensures ∙ ap tree_seen c.in-Some-Some.is-0 in
    let is : source_at p url ≡ Some s = sym c.get.ensures ∙ ap option_copied c.in-Some-Some.is-1 in
    let right : is_right t ≡ true =
    right_is p url t at base rests s is
    ∙ ap (λ (es : List Element). brings_elements (codes "differential") t && ids_differ es) (sym c.elements.ensures)
    ∙ sym c.in_ok-fault.ensures.none ∙ ap is_none c.in_default-2.is in
    if_ok (λ v. IsLaid p url under c.all.result.now v.items) (λ v. IsSnapshot p url v.items)
    (λ v laid. made_is p url t at base rests s is right under v.items c.requires.under.2
    (subst (λ d. IsLaid p url under d v.items) (c.all.ensures ∙ c.elements-2.ensures) laid))
    c.elements_by_differential.result c.elements_by_differential.ensures.laid

pub returns-clause-none : goal.returns-clause-none
returns-clause-none c =
    let p = c.args.sources.now in
    let url = c.args.url.now in
    let t = tree_of c.in-Some-Some.definition.now in
    let s = c.in-Some-Some.source.now in
    let base = c.requires.under.0 in
    let rests = c.requires.under.1 in
    let under = c.args.under.now in
    let at : at_url StructureDefinition url p ≡ Some t = sym c.definition.ensures ∙ ap tree_seen c.in-Some-Some.is-0 in
    let is : source_at p url ≡ Some s = sym c.get.ensures ∙ ap option_copied c.in-Some-Some.is-1 in
    if_err_both (λ f. is_no_memory f ≡ false → (es : List Element) → IsLaid p url under c.all.result.now es → ⊥)
    (λ f. is_no_memory f ≡ false → number_of f ≡ S3) (λ f. is_no_memory f ≡ false → HasOwn p url (number_of f))
    (λ f none three memory. laid_own p url t at base rests s under (number_of f) is c.requires.under.2 (three memory)
    (λ es laid. none memory es (subst (λ d. IsLaid p url under d es) (sym (c.all.ensures ∙ c.elements-2.ensures)) laid)))
    c.elements_by_differential.result c.elements_by_differential.ensures.none c.elements_by_differential.ensures.number
