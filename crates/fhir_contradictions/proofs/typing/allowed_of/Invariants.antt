use Rattle.std.proofs.Common.{◌≡◌, ◌++◌, map, drop}
use Rattle.std.specs.Prelude.{filter}
use Rattle.fhir_contradictions.specs.Typing.{allows_code}
use Rattle.fhir_contradictions.proofs.typing.allowed_of.Given as goal

abbrev pub invariant-loop-entry : goal.invariant-loop-entry
invariant-loop-entry l =
    map (λ code. code.now) l.codes.items ++ filter (allows_code l.schema l.node) (map (λ entry. entry.code) (drop l.entry-index l.entries))
    ≡ filter (allows_code l.schema l.node) (map (λ entry. entry.code) l.entries)
