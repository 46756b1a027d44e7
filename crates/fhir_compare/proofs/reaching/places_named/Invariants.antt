use Rattle.std.proofs.Common.{◌≡◌, map, take}
use Rattle.std.specs.List.{filter_map}
use Rattle.fhir_package.specs.declared.kind.Kind.TheVariants.{StructureDefinition}
use Rattle.fhir_alike.specs.Naming.{place_named}
use Rattle.fhir_compare.proofs.reaching.places_named.Given as goal

abbrev pub invariant-loop-name : goal.invariant-loop-name
invariant-loop-name l =
    l.places.items ≡ filter_map (place_named StructureDefinition l.sides.old.now) (map (λ n. n.now) (take l.name-index l.name-items))
