use Rattle.std.proofs.Common.{◌≡◌, ◌++◌, map, drop, string_bytes}
use Rattle.fhir_gather_lines.specs.GatherLines.{joined}
use Rattle.fhir_gather_lines.proofs.joining.joined.Given as goal

abbrev pub invariant-loop-part : goal.invariant-loop-part
invariant-loop-part l = string_bytes l.text ++ joined (map (λ p. p.now) (drop l.part-index l.parts)) ≡ joined (map (λ p. p.now) l.parts)
