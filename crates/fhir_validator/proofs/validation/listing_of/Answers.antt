use Rattle.std.proofs.Common.{[], refl, sym, subst, ◌∙◌}
use Rattle.std.proofs.lemmas.Bool.{false≢true}
use Rattle.std.specs.List.{AllByRecursion}
use Rattle.fhir_conformance.specs.Meeting.{first}
use Rattle.fhir_validator.specs.Layouts.{item_at}
use Rattle.fhir_validator.specs.Listing.{IsFound, IsFoundSite, MarksAreTold}
use Rattle.fhir_validator.proofs.validation.listing_of.Goals as goal

pub returns-clause-kept : goal.returns-clause-kept
returns-clause-kept c = c.in_ok-list_pair.ensures.grown.wanted ∙ c.new-listing.ensures.wanted

pub returns-clause-told : goal.returns-clause-told
returns-clause-told c =
    let none : MarksAreTold c.args.judge.now c.new-listing.result = λ p is. absurd (false≢true (sym (c.new-listing.ensures.marks p) ∙ is)) in
    c.in_ok-list_pair.ensures.told none

pub returns-clause-found : goal.returns-clause-found
returns-clause-found c =
    let layout = c.args.judge.now in
    let x = item_at layout c.args.pair.item in
    let n = c.args.pair.node in
    let none = c.new-listing.result in
    c.in_ok-list_pair.ensures.grown.found x n [] (first refl c.requires.whole refl refl) (
      subst (AllByRecursion (IsFound layout.schema x n)) (sym c.new-listing.ensures.issues) tt,
      subst (AllByRecursion (IsFoundSite layout.schema layout.given none.wanted x n)) (sym c.new-listing.ensures.sites) tt,
    )
