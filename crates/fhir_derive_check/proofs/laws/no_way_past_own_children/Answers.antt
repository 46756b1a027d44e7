use Rattle.fhir_derive_check.proofs.Ways.{past-own}
use Rattle.fhir_derive_check.proofs.laws.no_way_past_own_children.Goals as goal

pub returns : goal.returns
returns c = λ s first q way apart others. past-own s first q way apart others
