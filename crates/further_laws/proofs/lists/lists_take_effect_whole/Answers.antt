use Rattle.further_laws.proofs.Listed.{found, refused, bad, twice}
use Rattle.further_laws.proofs.lists.lists_take_effect_whole.Goals as goal

pub returns-clause-found : goal.returns-clause-found
returns-clause-found c = found c.changes.ensures.put_other_url c.changes.ensures.put_other_kind c.changes.ensures.put

pub returns-clause-refused : goal.returns-clause-refused
returns-clause-refused c = refused

pub returns-clause-bad : goal.returns-clause-bad
returns-clause-bad c = bad

pub returns-clause-twice : goal.returns-clause-twice
returns-clause-twice c = twice
