use Rattle.conformance_laws.proofs.Composed.{unread_include, unread_exclude}
use Rattle.conformance_laws.proofs.value_sets.unread_parts.Goals as goal

pub returns-clause-included : goal.returns-clause-included
returns-clause-included c p canonical t part is among unread = unread_include p (c.least_closed.ensures.read p) canonical t is part among unread

pub returns-clause-excluded : goal.returns-clause-excluded
returns-clause-excluded c p canonical t part is among unread = unread_exclude p (c.least_closed.ensures.read p) canonical t is part among unread
