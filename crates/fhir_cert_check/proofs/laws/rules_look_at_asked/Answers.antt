use Rattle.std.proofs.Common.{ap}
use Rattle.fhir_elements.specs.Tests.{first_of, all_hold}
use Rattle.fhir_cert_check.proofs.Looking.{same_rules}
use Rattle.fhir_cert_check.proofs.laws.rules_look_at_asked.Goals as goal

pub returns-clause-first : goal.returns-clause-first
returns-clause-first c s some others p agree = ap first_of (same_rules s some others p agree)

pub returns-clause-right : goal.returns-clause-right
returns-clause-right c s some others p agree = ap all_hold (same_rules s some others p agree)
