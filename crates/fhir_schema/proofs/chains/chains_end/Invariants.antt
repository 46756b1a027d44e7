use Rattle.std.proofs.Common.{◌≡◌, map, take, not, is_some}
use Rattle.fhir_schema.proofs.chains.chains_end.Given as goal

abbrev pub invariant-loop-place : goal.invariant-loop-place
invariant-loop-place l = l.ends.items ≡ map (λ o. not (is_some o)) (take l.place-index l.place-items)
