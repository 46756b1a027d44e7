use Rattle.std.proofs.Common.{◌≡◌, ◌++◌, map, drop}
use Rattle.std.specs.List.{flat_map}
use Rattle.fhir_alike.specs.Naming.{entry_targets}
use Rattle.fhir_alike.proofs.naming.push_targets.Given as goal

abbrev pub invariant-loop-entry : goal.invariant-loop-entry
invariant-loop-entry l =
    map (λ n. n.now) l.names.items ++ flat_map entry_targets (drop l.entry-index l.entry-items)
    ≡ map (λ n. n.now) l.initial.names.items ++ flat_map entry_targets l.entry-items
