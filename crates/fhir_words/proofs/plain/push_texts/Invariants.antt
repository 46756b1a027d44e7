use Rattle.std.proofs.Common.{◌≡◌, ◌++◌, map, drop, string_bytes}
use Rattle.fhir_words.specs.Views.{texts_seen}
use Rattle.fhir_words.proofs.plain.push_texts.Given as goal

abbrev pub invariant-loop-word : goal.invariant-loop-word
invariant-loop-word l =
    texts_seen l.texts.items ++ map string_bytes (drop l.word-index l.words)
    ≡ texts_seen l.fn.texts.items ++ map string_bytes l.words
