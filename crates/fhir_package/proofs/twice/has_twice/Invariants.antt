use Rattle.std.proofs.Common.{◌≡◌, drop}
use Rattle.fhir_package.specs.Changing.{has_twice}
use Rattle.fhir_package.proofs.Meeting.{is_met}
use Rattle.fhir_package.proofs.twice.has_twice.Given as goal

abbrev pub invariant-loop-definition : goal.invariant-loop-definition
invariant-loop-definition l = has_twice l.definitions ≡ is_met (drop l.definition-index l.definitions) l.seen
