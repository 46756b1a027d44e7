use Rattle.further_laws.proofs.Sets.{code_somewhere}
use Rattle.further_laws.proofs.codes.codes_of_sets.Goals as goal

pub returns : goal.returns
returns c = code_somewhere
