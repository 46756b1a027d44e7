use Rattle.conformance_laws.proofs.Found.{at_end}
use Rattle.conformance_laws.proofs.belonging.items_on_paths.Goals as goal

pub returns : goal.returns
returns c names x y = at_end names x y
