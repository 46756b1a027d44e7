use Rattle.fhir_nodes.specs.Types.{type_place}
use Rattle.fhir_nodes.specs.Urls.{url_place, canonical_place}
use Rattle.conformance_laws.proofs.Rooted.{usable_at, no_root}
use Rattle.conformance_laws.proofs.usable.roots_can_be_used.Goals as goal

pub returns-clause-none : goal.returns-clause-none
returns-clause-none c = no_root

pub returns-clause-of_url : goal.returns-clause-of_url
returns-clause-of_url c s url n is = usable_at s (url_place s.definitions url) n is

pub returns-clause-of_type : goal.returns-clause-of_type
returns-clause-of_type c s code n is = usable_at s (type_place s.definitions code) n is

pub returns-clause-of_canonical : goal.returns-clause-of_canonical
returns-clause-of_canonical c s canonical n is = usable_at s (canonical_place s.definitions canonical) n is
