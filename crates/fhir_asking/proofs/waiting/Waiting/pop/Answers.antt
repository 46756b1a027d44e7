use Rattle.fhir_asking.proofs.waiting.Waiting.pop.Goals as goal
use Rattle.fhir_asking.proofs.Marks.{popped_apart}

pub returns-clause-apart : goal.returns-clause-apart
returns-clause-apart c = popped_apart c.self.inside.places c.self.inside.names.items c.pop.new.self.items c.pop.result c.self.invariant c.pop.ensures.items
