use Rattle.std.proofs.Common.{ap}
use Rattle.std.specs.Option.{option_map_or}
use Rattle.fhir_facets.specs.Unread.{profile}
use Rattle.conformance_laws.proofs.types.profiles_of_types.Goals as goal

pub returns-clause-used : goal.returns-clause-used
returns-clause-used c s m roots x p r is = ap (λ o. option_map_or roots o (m (profile p))) is

pub returns-clause-unread : goal.returns-clause-unread
returns-clause-unread c s m roots x p is = ap (λ o. option_map_or roots o (m (profile p))) is
