use Rattle.std.proofs.Common.{◌≡◌, ◌++◌, map, drop}
use Rattle.std.specs.List.{filter_map}
use Rattle.fhir_json.specs.Fields.{text_or_empty}
use Rattle.fhir_json.specs.Views.{trees_of}
use Rattle.fhir_package.specs.declared.kind.Kind.TheVariants.{ValueSet}
use Rattle.fhir_alike.specs.Naming.{place_named}
use Rattle.fhir_alike.proofs.value_sets.push_named.Given as goal

abbrev pub invariant-loop-name : goal.invariant-loop-name
invariant-loop-name l =
    l.places.items ++ filter_map (place_named ValueSet l.old) (map text_or_empty (trees_of (drop l.name-index l.name-items)))
    ≡ l.initial.places.items ++ filter_map (place_named ValueSet l.old) (map text_or_empty (trees_of l.name-items))
