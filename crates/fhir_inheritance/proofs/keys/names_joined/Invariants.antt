use Rattle.std.proofs.Common.{◌≡◌, ◌∷◌, ◌++◌, string_bytes}
use Rattle.std.specs.List.{flat_map}
use Rattle.fhir_json.specs.Bytes.{dot}
use Rattle.fhir_inheritance.specs.Keys.{names_joined}
use Rattle.fhir_inheritance.proofs.keys.names_joined.Given as goal

abbrev pub invariant-loop-segment : goal.invariant-loop-segment
invariant-loop-segment l = string_bytes l.path ++ flat_map (λ s. dot ∷ s.0) l.segment-iterator ≡ names_joined l.id
