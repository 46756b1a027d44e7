use Rattle.std.proofs.Common.{◌≡◌, true, ◌∙◌, sym, Some, subst}
use Rattle.std.specs.List.{slice_get}
use Rattle.std.specs.Option.{IfSome}
use Rattle.fhir_json.specs.Views.{tree_of}
use Rattle.fhir_codes.specs.Concepts.{Concepts}
use Rattle.fhir_codes.specs.ValueSets.{lists_no_concept, code_system}
use Rattle.fhir_codes.proofs.Taking.{whole_taken}
use Rattle.fhir_codes.proofs.sources.Sources.taken_number.Goals as goal

pub returns-in-Some : goal.returns-in-Some
returns-in-Some c =
    let p = c.args.self.now.definitions in
    let t = tree_of c.args.include.now in
    let none : lists_no_concept t ≡ true = sym c.lists_no_concept.ensures ∙ c.if-not-lists_no_concept.false in
    let is : code_system p t c.args.url.now ≡ Some (tree_of c.in-Some._system.now) = sym c.in-Some.ensures in
    subst (λ (s : Concepts). IfSome c.system_number.result (λ n. slice_get c.args.self.now.tables n ≡ Some s))
    (whole_taken p t c.args.url.now (tree_of c.in-Some._system.now) none is) c.system_number.ensures
