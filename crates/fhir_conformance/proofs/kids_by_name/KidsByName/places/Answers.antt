use Rattle.std.proofs.Common.{ap, ◌∙◌, []}
use Rattle.std.specs.Option.{option_map_or}
use Rattle.fhir_conformance.specs.Views.{places_in}
use Rattle.fhir_conformance.proofs.Placing.{named_places}
use Rattle.fhir_conformance.proofs.kids_by_name.KidsByName.places.Goals as goal

pub returns-in-Some : goal.returns-in-Some
returns-in-Some c =
    c.deref.ensures.value
    ∙ ap (λ o. option_map_or (λ ps. ps.items) o []) c.in-Some.ensures.value
    ∙ named_places c.args.name.now c.self.inside.places.entries
    ∙ ap (λ ps. places_in ps c.args.name.now) c.self.view_is

pub returns-in-None : goal.returns-in-None
returns-in-None c =
    c.default.ensures
    ∙ ap (λ o. option_map_or (λ ps. ps.items) o []) c.in-None.ensures.value
    ∙ named_places c.args.name.now c.self.inside.places.entries
    ∙ ap (λ ps. places_in ps c.args.name.now) c.self.view_is
