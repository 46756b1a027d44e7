use Rattle.std.proofs.Common.{◌++◌, ◌∙◌, map, ap}
use Rattle.fhir_json.specs.Fields.{text_or_empty}
use Rattle.fhir_json.specs.Views.{tree_of}
use Rattle.fhir_codes.specs.ValueSets.{of_set}
use Rattle.fhir_codes.specs.Tables.{table_at, known_in}
use Rattle.fhir_codes.proofs.Parts.{map_named}
use Rattle.fhir_codes.proofs.sources.Sources.numbers_named.Goals as goal

pub returns : goal.returns
returns c =
    let s = c.args.self.now in
    let texts = c.items_in.result.now in
    c.in_ok-put_named.ensures
    ∙ ap (λ ns. map (table_at s.tables) ns ++ map (λ j. of_set s.definitions (known_in s) (text_or_empty (tree_of j))) texts) c.new-numbers.ensures.items
    ∙ map_named (of_set s.definitions (known_in s)) (tree_of c.args.include.now) texts c.items_in.ensures
