use Rattle.std.proofs.Common.{◌≡◌, ◌++◌, map, string_bytes, vec_len, reverse}
use Rattle.fhir_snapshot.proofs.listing.put_before.Given as goal

abbrev pub invariant-loop-id : goal.invariant-loop-id
invariant-loop-id l = map string_bytes l.ids.items ++ reverse (map string_bytes l.left.items) ≡ map string_bytes l.initial.ids.items ++ reverse (map string_bytes l.initial.left.items)

abbrev pub decreases-loop-id : goal.decreases-loop-id
decreases-loop-id l = vec_len l.ids
