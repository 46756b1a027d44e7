use Rattle.std.proofs.Common.{◌≡◌, map, take}
use Rattle.std.specs.Prelude.{string_bytes}
use Rattle.fhir_forms.proofs.discriminating.codes_of.Given as goal

abbrev pub invariant-loop-entry : goal.invariant-loop-entry
invariant-loop-entry l = map string_bytes l.codes.items ≡ map (λ entry. entry.code) (take l.entry-index l.entries)
