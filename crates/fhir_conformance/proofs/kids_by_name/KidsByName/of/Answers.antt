use Rattle.std.proofs.Common.{sym, ap, ◌∙◌}
use Rattle.fhir_conformance.specs.Asks.{places_from}
use Rattle.fhir_conformance.proofs.Placing.{named_places}
use Rattle.fhir_conformance.proofs.kids_by_name.KidsByName.of.Goals as goal

pub returns : goal.returns
returns c = λ name.
    sym (named_places name c.in_ok-places.places.entries) ∙ c.in_ok-places.ensures name ∙ ap (places_from 0 name) c.kids.ensures
