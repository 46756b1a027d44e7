use Rattle.fhir_nodes.specs.Types.{type_place}
use Rattle.fhir_nodes.specs.Urls.{url_place, canonical_place}
use Rattle.fhir_schema.proofs.Roots.{found}
use Rattle.fhir_schema.proofs.laws.roots_are_roots.Goals as goal

pub returns-clause-of_url : goal.returns-clause-of_url
returns-clause-of_url c s url n h = found s n (url_place s.definitions url) h

pub returns-clause-of_type : goal.returns-clause-of_type
returns-clause-of_type c s code n h = found s n (type_place s.definitions code) h

pub returns-clause-of_canonical : goal.returns-clause-of_canonical
returns-clause-of_canonical c s canonical n h = found s n (canonical_place s.definitions canonical) h
