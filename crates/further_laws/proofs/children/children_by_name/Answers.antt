use Rattle.further_laws.proofs.Kids.{by_name}
use Rattle.further_laws.proofs.children.children_by_name.Goals as goal

pub returns : goal.returns
returns c = by_name
