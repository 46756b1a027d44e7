use Rattle.std.proofs.Common.{◌≡◌, ◌++◌, map, take, string_bytes}
use Rattle.fhir_snapshot.proofs.listing.put_texts.Given as goal

abbrev pub invariant-loop-text : goal.invariant-loop-text
invariant-loop-text l = map string_bytes l.ids.items ≡ map string_bytes l.fn.ids.items ++ map string_bytes (take l.text-index l.texts)
