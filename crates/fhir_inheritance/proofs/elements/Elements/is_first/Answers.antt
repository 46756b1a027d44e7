use Rattle.std.proofs.Common.{ap, sym, ◌∙◌}
use Rattle.fhir_definition.specs.Snapshot.{is_at, id_place}
use Rattle.fhir_names.specs.Places.{place_of}
use Rattle.fhir_inheritance.proofs.Keeping.{place-is}
use Rattle.fhir_inheritance.proofs.elements.Elements.is_first.Goals as goal

pub returns-in-Some : goal.returns-in-Some
returns-in-Some c =
    let es = c.self.inside.all.items in
    ap (is_at c.args.place)
    (sym c.in-Some.is ∙ c.get.ensures ∙ ap (place_of c.self.inside.ids) c.id.ensures
    ∙ sym (place-is es c.self.inside.ids c.args.element.now.id c.self.invariant.ids)
    ∙ ap (λ xs. id_place xs c.args.element.now.id) c.self.view_is)

pub returns-in-None : goal.returns-in-None
returns-in-None c =
    let es = c.self.inside.all.items in
    ap (is_at c.args.place)
    (sym c.in-None.is ∙ c.get.ensures ∙ ap (place_of c.self.inside.ids) c.id.ensures
    ∙ sym (place-is es c.self.inside.ids c.args.element.now.id c.self.invariant.ids)
    ∙ ap (λ xs. id_place xs c.args.element.now.id) c.self.view_is)
