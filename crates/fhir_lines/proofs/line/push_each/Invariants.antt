use Rattle.std.proofs.Common.{◌≡◌, ◌++◌, List, ℕ, drop, map, flat_map, string_bytes}
use Rattle.fhir_lines.proofs.line.push_each.Given as goal

abbrev pub invariant-loop-part : goal.invariant-loop-part
invariant-loop-part l =
    string_bytes l.into ++ flat_map (λ (p : List ℕ). l.separator ++ p) (map (λ p. p.now) (drop l.part-index l.parts))
    ≡ string_bytes l.fn.into ++ flat_map (λ (p : List ℕ). l.separator ++ p) (map (λ p. p.now) l.parts)
