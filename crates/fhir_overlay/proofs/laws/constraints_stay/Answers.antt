use Rattle.fhir_overlay.proofs.Staying.{stay, there, only, once}
use Rattle.fhir_overlay.proofs.laws.constraints_stay.Goals as goal

pub returns-clause-stay : goal.returns-clause-stay
returns-clause-stay c = stay

pub returns-clause-there : goal.returns-clause-there
returns-clause-there c = there

pub returns-clause-only : goal.returns-clause-only
returns-clause-only c = only

pub returns-clause-once : goal.returns-clause-once
returns-clause-once c = once
