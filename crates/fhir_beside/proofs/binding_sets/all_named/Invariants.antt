use Rattle.std.proofs.Common.{◌≡◌, map, drop, replicate, length, None}
use Rattle.fhir_beside.specs.Naming.{names_seen, name_all}
use Rattle.fhir_beside.proofs.binding_sets.all_named.Given as goal

abbrev pub invariant-loop-canonical : goal.invariant-loop-canonical
invariant-loop-canonical l = name_all l.old (map (λ c. c.now) (drop l.canonical-index l.canonicals)) (names_seen l.names.items) ≡ name_all l.old (map (λ c. c.now) l.canonicals) (replicate (length l.old.value_sets) None)
