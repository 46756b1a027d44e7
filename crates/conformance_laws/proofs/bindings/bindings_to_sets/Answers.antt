use Rattle.conformance_laws.proofs.Coded.{in_known, in_unknown, in_none}
use Rattle.conformance_laws.proofs.bindings.bindings_to_sets.Goals as goal

pub returns-clause-known : goal.returns-clause-known
returns-clause-known c m b x s how is looked = in_known m b x s how is looked

pub returns-clause-unknown : goal.returns-clause-unknown
returns-clause-unknown c m b x is = in_unknown m b x is

pub returns-clause-not_looked_up : goal.returns-clause-not_looked_up
returns-clause-not_looked_up c m b x looked = in_none m b x looked
