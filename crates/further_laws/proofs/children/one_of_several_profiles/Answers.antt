use Rattle.fhir_conformance.specs.Conformance.{profile_holds}
use Rattle.further_laws.proofs.Some.{one_of}
use Rattle.further_laws.proofs.children.one_of_several_profiles.Goals as goal

pub returns : goal.returns
returns c s m roots x profiles = one_of (profile_holds s m roots x) profiles
