use Rattle.std.proofs.Common.{◌∙◌, ap}
use Rattle.fhir_json.specs.Views.{tree_of}
use Rattle.fhir_codes.specs.Concepts.{of_system}
use Rattle.fhir_codes.specs.ValueSets.{codes_taken}
use Rattle.fhir_codes.specs.Tables.{in_tables}
use Rattle.fhir_codes.proofs.Tabling.{with_number}
use Rattle.fhir_codes.proofs.sources.Sources.of_system_within.Goals as goal

pub returns-in_ok-push-in-Some : goal.returns-in_ok-push-in-Some
returns-in_ok-push-in-Some c =
    let s = c.args.self.now in
    let url = c.args.url.now in
    c.in_all.ensures s.tables ∙ ap (in_tables s.tables) c.in_ok-push-in-Some.ensures.items
    ∙ with_number s.tables c.args.numbers.items c.in-Some.number (of_system url (codes_taken s.definitions (tree_of c.args.include.now) url)) c.in-Some.ensures
