use Rattle.conformance_laws.proofs.Rooted.{concrete}
use Rattle.conformance_laws.proofs.usable.concrete_resources.Goals as goal

pub returns : goal.returns
returns c = concrete
