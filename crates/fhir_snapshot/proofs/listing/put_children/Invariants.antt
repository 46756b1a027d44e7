use Rattle.std.proofs.Common.{◌≡◌, ◌++◌, map, take, string_bytes}
use Rattle.fhir_inheritance.specs.Keys.{child_id}
use Rattle.fhir_snapshot.proofs.listing.put_children.Given as goal

abbrev pub invariant-loop-name : goal.invariant-loop-name
invariant-loop-name l = map string_bytes l.ids.items ≡ map string_bytes l.fn.ids.items ++ map (child_id l.id) (map string_bytes (take l.name-index l.names))
