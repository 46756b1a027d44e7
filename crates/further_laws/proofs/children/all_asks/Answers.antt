use Rattle.fhir_conformance.proofs.ByAsks.{conforms_to}
use Rattle.further_laws.proofs.children.all_asks.Goals as goal

pub returns : goal.returns
returns c = λ s. conforms_to s (c.roots_are_roots.ensures.of_type s) (c.roots_are_roots.ensures.of_canonical s)
