use Rattle.snapshot_laws.proofs.Members.{others, elements}
use Rattle.snapshot_laws.proofs.completed.completed_definitions.Goals as goal

pub returns-clause-others : goal.returns-clause-others
returns-clause-others c = λ es t name is other. others es t name is other

pub returns-clause-elements : goal.returns-clause-elements
returns-clause-elements c = λ es t writable fit. elements c.written_back.ensures es t writable fit
