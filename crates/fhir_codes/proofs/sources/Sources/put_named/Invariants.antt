use Rattle.std.proofs.Common.{◌≡◌, ◌++◌, map, take}
use Rattle.fhir_json.specs.Fields.{text_or_empty}
use Rattle.fhir_json.specs.Views.{tree_of}
use Rattle.fhir_codes.specs.ValueSets.{of_set}
use Rattle.fhir_codes.specs.Tables.{table_at, known_in}
use Rattle.fhir_codes.proofs.sources.Sources.put_named.Given as goal

abbrev pub invariant-loop-text : goal.invariant-loop-text
invariant-loop-text l =
    map (table_at l.self.tables) l.out.items
    ≡ map (table_at l.self.tables) l.initial.out.items
    ++ map (λ j. of_set l.self.definitions (known_in l.self) (text_or_empty (tree_of j))) (take l.text-index l.texts)
