use Rattle.std.proofs.Common.{◌≡◌, ◌++◌, map, drop}
use Rattle.std.specs.List.{flat_map}
use Rattle.fhir_alike.proofs.naming.push_profiles.Given as goal

abbrev pub invariant-loop-entry : goal.invariant-loop-entry
invariant-loop-entry l =
    map (λ n. n.now) l.names.items ++ flat_map (λ entry. entry.profiles) (drop l.entry-index l.entry-items)
    ≡ map (λ n. n.now) l.initial.names.items ++ flat_map (λ entry. entry.profiles) l.entry-items
