use Rattle.std.proofs.Common.{◌≡◌, ◌++◌, [], drop}
use Rattle.fhir_contradictions.specs.Listing.{found_from}
use Rattle.fhir_contradictions.proofs.listing.all_found.Given as goal

abbrev pub invariant-loop-at : goal.invariant-loop-at
invariant-loop-at l =
    l.found.items ++ found_from l.schema l.place l.known.items l.at (drop l.at l.element-items)
    ≡ found_from l.schema l.place [] 0 l.element-items
