use Rattle.std.proofs.Common.{map, take}
use Rattle.fhir_claims.specs.Once.{HasOnce}
use Rattle.fhir_claims.proofs.once.each_once.Given as goal

abbrev pub invariant-loop-text : goal.invariant-loop-text
invariant-loop-text l = HasOnce l.once (map (λ t. t.now) (take l.text-index l.texts))
