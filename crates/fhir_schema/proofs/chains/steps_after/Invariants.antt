use Rattle.std.proofs.Common.{◌≡◌, map, take, get_or, None}
use Rattle.std.specs.Option.{option_and_then}
use Rattle.fhir_schema.proofs.chains.steps_after.Given as goal

abbrev pub invariant-loop-place : goal.invariant-loop-place
invariant-loop-place l = l.ends.items ≡ map (option_and_then (λ p. get_or l.further p None)) (take l.place-index l.places)
