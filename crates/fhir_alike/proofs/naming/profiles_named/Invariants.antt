use Rattle.std.proofs.Common.{◌≡◌, ◌++◌, map, drop}
use Rattle.std.specs.List.{flat_map}
use Rattle.fhir_alike.specs.Naming.{element_profiles}
use Rattle.fhir_alike.proofs.naming.profiles_named.Given as goal

abbrev pub invariant-loop-element : goal.invariant-loop-element
invariant-loop-element l =
    map (λ n. n.now) l.names.items ++ flat_map element_profiles (drop l.element-index l.element-items) ≡ flat_map element_profiles l.element-items
