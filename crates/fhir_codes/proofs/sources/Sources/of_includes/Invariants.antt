use Rattle.std.proofs.Common.{◌≡◌, map, take}
use Rattle.fhir_json.specs.Views.{tree_of}
use Rattle.fhir_codes.specs.ValueSets.{of_include}
use Rattle.fhir_codes.specs.Tables.{known_in}
use Rattle.fhir_codes.specs.Including.{included}
use Rattle.fhir_codes.proofs.sources.Sources.of_includes.Given as goal

abbrev pub invariant-loop-include : goal.invariant-loop-include
invariant-loop-include l =
    map (included l.self.tables) l.all.items
    ≡ map (λ j. of_include l.self.definitions (known_in l.self) (tree_of j)) (take l.include-index l.includes)
