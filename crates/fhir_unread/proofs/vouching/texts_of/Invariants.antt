use Rattle.std.proofs.Common.{◌≡◌, map, string_bytes}
use Rattle.std.specs.List.{flat_map}
use Rattle.fhir_vouching.specs.Given.{line_seen}
use Rattle.fhir_unread.specs.Given.{text_given}
use Rattle.fhir_unread.proofs.vouching.texts_of.Given as goal

abbrev pub invariant-loop-line : goal.invariant-loop-line
invariant-loop-line l = map string_bytes l.texts.items ≡ flat_map (λ p. text_given p.1) (map line_seen l.yielded)
