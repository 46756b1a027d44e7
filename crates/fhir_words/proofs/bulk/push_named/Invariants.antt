use Rattle.std.proofs.Common.{◌≡◌, ◌++◌, map, drop, string_bytes}
use Rattle.fhir_json.specs.Views.{text_seen}
use Rattle.fhir_words.specs.Words.{named}
use Rattle.fhir_words.proofs.bulk.push_named.Given as goal

abbrev pub invariant-loop-word : goal.invariant-loop-word
invariant-loop-word l =
    map text_seen l.names.items ++ map named (map string_bytes (drop l.word-index l.words))
    ≡ map text_seen l.fn.names.items ++ map named (map string_bytes l.words)
