use Rattle.conformance_laws.proofs.Composed.{unread_included, unread_excluded}
use Rattle.conformance_laws.proofs.value_sets.unread_sets.Goals as goal

pub returns-clause-included : goal.returns-clause-included
returns-clause-included c p canonical named t part is among has unread =
    unread_included p (c.least_closed.ensures.read p) canonical t is part named among has unread

pub returns-clause-excluded : goal.returns-clause-excluded
returns-clause-excluded c p canonical named t part is among has unread =
    unread_excluded p (c.least_closed.ensures.read p) canonical t is part named among has unread
