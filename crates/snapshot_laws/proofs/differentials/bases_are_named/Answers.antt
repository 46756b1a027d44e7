use Rattle.snapshot_laws.proofs.Named.{named_there, named_same, named_none}
use Rattle.snapshot_laws.proofs.differentials.bases_are_named.Goals as goal

pub returns-clause-there : goal.returns-clause-there
returns-clause-there c = named_there

pub returns-clause-same : goal.returns-clause-same
returns-clause-same c = named_same

pub returns-clause-none : goal.returns-clause-none
returns-clause-none c = named_none
