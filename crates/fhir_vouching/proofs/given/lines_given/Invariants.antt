use Rattle.std.proofs.Common.{◌≡◌, ◌+◌, ◌++◌, length, drop, map}
use Rattle.std.specs.Str.Lines.{lines}
use Rattle.fhir_vouching.specs.Given.{given_from, line_seen}
use Rattle.fhir_vouching.proofs.given.lines_given.Given as goal

abbrev pub invariant-loop-before : goal.invariant-loop-before
invariant-loop-before l =
    map line_seen l.given.items ++ given_from (length l.yielded + 1) (drop (length l.yielded) (lines l.text)) ≡ given_from 1 (lines l.text)
