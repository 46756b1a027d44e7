use Rattle.std.proofs.Common.{◌≡◌, map, take, None}
use Rattle.fhir_schema.specs.Blaming.{reasons_of}
use Rattle.fhir_schema.proofs.settling.no_blames.Given as goal

abbrev pub invariant-loop-definition : goal.invariant-loop-definition
invariant-loop-definition l = reasons_of l.all.items ≡ map (λ _. None) (take l._definition-index l._definition-items)
