use Rattle.std.proofs.Common.{◌≡◌, ◌++◌, map, drop}
use Rattle.fhir_contradictions.proofs.listing.push_each.Given as goal

abbrev pub invariant-loop-contradiction : goal.invariant-loop-contradiction
invariant-loop-contradiction l =
    l.into.items ++ map (λ c. (l.node, c)) (drop l.contradiction-index l.contradictions)
    ≡ l.fn.into.items ++ map (λ c. (l.node, c)) l.contradictions
