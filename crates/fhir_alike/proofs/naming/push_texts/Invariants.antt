use Rattle.std.proofs.Common.{◌≡◌, ◌++◌, map, drop, string_bytes}
use Rattle.fhir_alike.proofs.naming.push_texts.Given as goal

abbrev pub invariant-loop-text : goal.invariant-loop-text
invariant-loop-text l =
    map (λ n. n.now) l.names.items ++ map string_bytes (drop l.text-index l.texts)
    ≡ map (λ n. n.now) l.initial.names.items ++ map string_bytes l.texts
