use Rattle.std.proofs.Common.{codes}
use Rattle.fhir_json.specs.Fields.{items_in}
use Rattle.fhir_facets.specs.Bindings.{has_coding}
use Rattle.conformance_laws.proofs.Coded.{coded}
use Rattle.conformance_laws.proofs.Found.{one_of}
use Rattle.conformance_laws.proofs.bindings.codings_in_sets.Goals as goal

pub returns-clause-coding : goal.returns-clause-coding
returns-clause-coding c s t = coded s t

pub returns-clause-one_coding : goal.returns-clause-one_coding
returns-clause-one_coding c s t = one_of (has_coding s) (items_in (codes "coding") t)
