use Rattle.std.proofs.Common.{sym}
use Rattle.fhir_derive_check.proofs.derivation.outcome_between.Goals as goal

pub returns-clause-outcome : goal.returns-clause-outcome
returns-clause-outcome c = record { roots = c.in-Some-roots_between.roots; are_roots = sym c.in-Some-roots_between.ensures; outcome = c.in_ok-outcome.ensures }
