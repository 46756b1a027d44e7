use Rattle.std.proofs.Common.{◌≡◌, map, take, string_bytes}
use Rattle.fhir_inheritance.proofs.texts.all_owned.Given as goal

abbrev pub invariant-loop-text : goal.invariant-loop-text
invariant-loop-text l = map string_bytes l.all.items ≡ map string_bytes (take l.text-index l.texts)
