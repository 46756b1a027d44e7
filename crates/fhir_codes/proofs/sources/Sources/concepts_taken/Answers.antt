use Rattle.std.proofs.Common.{◌≡◌, true, ◌∙◌, sym, Some}
use Rattle.fhir_json.specs.Views.{tree_of}
use Rattle.fhir_codes.specs.Concepts.{of_system}
use Rattle.fhir_codes.specs.ValueSets.{lists_no_concept, code_system, codes_taken}
use Rattle.fhir_codes.specs.Placing.{whole_of}
use Rattle.fhir_codes.proofs.Looping.{gives_as}
use Rattle.fhir_codes.proofs.Taking.{whole_taken}
use Rattle.fhir_codes.proofs.sources.Sources.concepts_taken.Goals as goal

pub returns-in-Some : goal.returns-in-Some
returns-in-Some c =
    let p = c.args.self.now.definitions in
    let t = tree_of c.args.include.now in
    let url = c.args.url.now in
    let none : lists_no_concept t ≡ true = sym c.lists_no_concept.ensures ∙ c.if-not-lists_no_concept.false in
    let is : code_system p t url ≡ Some (tree_of c.in-Some._system.now) = sym c.in-Some.ensures in
    gives_as (λ s. s) c.whole.result (whole_of p url) (of_system url (codes_taken p t url)) (whole_taken p t url (tree_of c.in-Some._system.now) none is) c.whole.ensures
