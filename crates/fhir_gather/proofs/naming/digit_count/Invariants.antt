use Rattle.std.proofs.Common.{◌≡◌, ◌+◌}
use Rattle.fhir_gather.specs.Written.{digit_count}
use Rattle.fhir_gather.proofs.naming.digit_count.Given as goal

abbrev pub invariant-loop-rest : goal.invariant-loop-rest
invariant-loop-rest l = l.count + digit_count l.rest ≡ digit_count l.number

abbrev pub decreases-loop-rest : goal.decreases-loop-rest
decreases-loop-rest l = l.rest
